-- Only the active rows of a section count: to leave out the others changes nothing.
use lib.ListN.{length}
use mathlib.Core.Bool.{Bool, cond, false, true}
use mathlib.Core.List.{List, [], ◌∷◌}
use mathlib.Core.Path.{ap, refl, ◌≡◌}
use Prim.Native.Nat.{suc, ℕ}
use Rattle.trellises.specs.SectionOf.{active_rows, is_active, keep, section_of, with_active, with_row}
use Rattle.trellises.specs.Smallest.{active_at}
use Rattle.words.specs.Choice.{more}

pub active-only : (rows : List ℕ) (t : ℕ) → section_of (active_rows rows t) t ≡ section_of rows t
unfolding with_row
active-only [] t = refl
active-only (row ∷ rows) t = go (is_active t row) refl (active-only rows t)
  where
    go : (a : Bool) → is_active t row ≡ a → section_of (active_rows rows t) t ≡ section_of rows t
        → section_of (keep a row (active_rows rows t)) t ≡ cond a (with_active t row (section_of rows t)) (section_of rows t)
    go true e ih = rw e (ap (with_active t row) ih)
    go false e ih = ih

-- there are as many of them as the trellis has
pub active-length : (rows : List ℕ) (t : ℕ) → length (active_rows rows t) ≡ active_at rows t
active-length [] t = refl
active-length (row ∷ rows) t = go (is_active t row) (active-length rows t)
  where
    go : (a : Bool) {n : ℕ} → length (active_rows rows t) ≡ n → length (keep a row (active_rows rows t)) ≡ more a n
    go true e = ap suc e
    go false e = e
