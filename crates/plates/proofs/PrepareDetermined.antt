-- Determined: two replies that meet the promise of `prepare`, or of `is_prepared`, are equal.
use Rattle.std.proofs.Common.{Result, Ok, Err}
use lib.ListN.{get_or, length}
use lib.Seq.{ext_get_or}
use mathlib.Core.Bool.{Bool, false, true}
use mathlib.Core.List.{List}
use mathlib.Core.Logic.{inl, inr, ◌⊎◌}
use mathlib.Core.Path.{ap, ap₂, refl, sym, ◌∙◌, ◌≡◌}
use native.Mathlib.Decide.{dec_lt}
use native.Mathlib.Omega.{arith}
use Prim.Native.Nat.{◌<◌, ℕ}
use Rattle.plates.proofs.OnePlate.{one-plate}
use Rattle.plates.proofs.Refusing.{Single, never_both, refuses-once}
use Rattle.plates.proofs.SoundIsPrepared.{used-row, used-rows}
use Rattle.plates.specs.Code.{InCode}
use Rattle.plates.specs.declared.Kind.{Kind}
use Rattle.plates.specs.declared.Plate.{Plate}
use Rattle.plates.specs.declared.Prepared.{Prepared}
use Rattle.plates.specs.declared.Refusal.{Refusal}
use Rattle.plates.specs.declared.Refusal.TheVariants.{RowBeyond, TooWide}
use Rattle.plates.specs.Prepare.{PlateOf, Prepares, PreparesAs, RowOver, Tests, Wide, prepare_conditions, rows_of}
use Rattle.plates.specs.Profile.{live_at}
use Rattle.words.proofs.Span.{lt-tri}

plate-same : (a b : Plate) → a.n ≡ b.n → a.k ≡ b.k → a.mask ≡ b.mask → a.rows ≡ b.rows → a.profile ≡ b.profile → a ≡ b
plate-same a b n k m r p =
    ap₂ (λ (x y : ℕ). record { n = x; k = y; mask = a.mask; rows = a.rows; profile = a.profile }) n k
    ∙ ap (λ (x : ℕ). record { n = b.n; k = b.k; mask = x; rows = a.rows; profile = a.profile }) m
    ∙ ap₂ (λ (x y : List ℕ). record { n = b.n; k = b.k; mask = b.mask; rows = x; profile = y }) r p

-- a code of a length has one plate with a mask
pub plate-determined : (C : ℕ → Type 0) (n mask : ℕ) (a b : Plate) → PlateOf C n mask a → PlateOf C n mask b → a ≡ b
plate-determined C n mask a b x y =
    plate-same a b (x.length_n ∙ sym y.length_n) count (x.mask_is ∙ sym y.mask_is)
    (ext_get_or 0 a.rows b.rows (x.table ∙ sym y.table) (λ j h. row j (dec_lt j a.k)))
    (ext_get_or 0 a.profile b.profile (x.entries ∙ sym y.entries) (λ t h. entry t (dec_lt n t)))
  where
    used : rows_of a ≡ rows_of b
    used = one-plate C (rows_of a) (rows_of b) _ _ _ _ x.rows y.rows

    count : a.k ≡ b.k
    count = sym (used-rows a x.few x.table) ∙ ap length used ∙ used-rows b y.few y.table

    row : (j : ℕ) → Dec (j < a.k) → get_or a.rows j 0 ≡ get_or b.rows j 0
    row j (yes h) = sym (used-row a j h) ∙ ap (λ (l : List ℕ). get_or l j 0) used ∙ used-row b j (omega (arith, count))
    row j (no h) = x.unused_rows j (omega arith) ∙ sym (y.unused_rows j (omega (arith, count)))

    entry : (t : ℕ) → Dec (n < t) → get_or a.profile t 0 ≡ get_or b.profile t 0
    entry t (yes h) = x.unused_entries t h ∙ sym (y.unused_entries t h)
    entry t (no h) = x.profile t (omega arith) ∙ ap (λ (l : List ℕ). live_at l t) used ∙ sym (y.profile t (omega arith))

-- the first row that is over is one
row-over-once : (n : ℕ) (rows : List ℕ) (p q : Refusal) → RowOver n rows p → RowOver n rows q → p ≡ q
row-over-once n rows p q x y = x.is ∙ ap RowBeyond (go (lt-tri x.row y.row)) ∙ sym y.is
  where
    go : (x.row < y.row) ⊎ ((x.row ≡ y.row) ⊎ (y.row < x.row)) → x.row ≡ y.row
    go (inl h) = absurd (omega (arith, y.first x.row h, x.over))
    go (inr (inl e)) = e
    go (inr (inr h)) = absurd (omega (arith, x.first y.row h, y.over))

-- a code has one plate, and the first depth at which that is too wide is one
wide-once : (C : ℕ → Type 0) (n : ℕ) (p q : Refusal) → Wide C n p → Wide C n q → p ≡ q
wide-once C n p q x y = x.is ∙ ap TooWide (go (lt-tri x.depth y.depth)) ∙ sym y.is
  where
    same : x.rows ≡ y.rows
    same = one-plate C x.rows y.rows _ _ _ _ x.plate y.plate

    live : (t : ℕ) → live_at x.rows t ≡ live_at y.rows t
    live t = ap (λ (l : List ℕ). live_at l t) same

    go : (x.depth < y.depth) ⊎ ((x.depth ≡ y.depth) ⊎ (y.depth < x.depth)) → x.depth ≡ y.depth
    go (inl h) = absurd (omega (arith, y.first x.depth h, x.over, live x.depth))
    go (inr (inl e)) = e
    go (inr (inr h)) = absurd (omega (arith, x.first y.depth h, y.over, live y.depth))

-- each condition gives one refusal
prepare-single : (n : ℕ) (kind : Kind) (rows : List ℕ) (mask : ℕ) → Single (prepare_conditions n kind rows mask)
prepare-single n kind rows mask = (alike, (alike, (row-over-once n rows, (alike, (wide-once (InCode kind n rows) n, tt)))))
  where
    -- a condition that names its refusal
    alike : {A : Type 0} {c : Refusal} (p q : Refusal) → A × (p ≡ c) → A × (q ≡ c) → p ≡ q
    alike p q x y = x.1 ∙ sym y.1

module _ (n : ℕ) (kind : Kind) (rows : List ℕ) (mask : ℕ) where
  same-reply : (a b : Plate) (v w : Result (Unit {0}) Refusal)
      → PreparesAs (prepare_conditions n kind rows mask) (InCode kind n rows) n mask a v
      → PreparesAs (prepare_conditions n kind rows mask) (InCode kind n rows) n mask b w
      → ◌≡◌ {A = Prepared} (record { verdict = v; plate = a }) (record { verdict = w; plate = b })
  same-reply a b (Ok _) (Ok _) x y =
      ap (λ (p : Plate). record { verdict = Ok tt; plate = p }) (plate-determined (InCode kind n rows) n mask a b x.1 y.1)
  same-reply a b (Ok _) (Err q) x y = absurd (never_both (prepare_conditions n kind rows mask) x.0 q y.0)
  same-reply a b (Err p) (Ok _) x y = absurd (never_both (prepare_conditions n kind rows mask) y.0 p x.0)
  same-reply a b (Err p) (Err q) x y =
      ap₂ (λ (r : Refusal) (z : Plate). record { verdict = Err r; plate = z })
      (refuses-once (prepare_conditions n kind rows mask) (prepare-single n kind rows mask) p q x.0 y.0) (x.1 ∙ sym y.1)

  pub prepare-determined : (r s : Prepared) → Prepares n kind rows mask r → Prepares n kind rows mask s → r ≡ s
  prepare-determined r s x y = same-reply r.plate s.plate r.verdict s.verdict x.reply y.reply

pub is-prepared-determined : (plate : Plate) (r s : Bool) → Tests plate r → Tests plate s → r ≡ s
is-prepared-determined plate true true x y = refl
is-prepared-determined plate true false x y = absurd (y.no_is refl (x.yes_is refl))
is-prepared-determined plate false true x y = absurd (x.no_is refl (y.yes_is refl))
is-prepared-determined plate false false x y = refl
