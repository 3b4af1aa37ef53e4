-- One number less another, by how far they are apart.
use Rattle.std.proofs.Common.{◌≡◌, ◌-◌, ◌<◌, ◌≤◌, ◌⊎◌, inl, inr, ℕ, cond, ◌∷◌, arith}
use Rattle.std.specs.Int.{abs_diff}
use borrow.Author.Tests.{le-ltb, lt-ltb}
use lib.Dec.{ltb}
use Rattle.listings.specs.Decimal.{decimal}
use Rattle.listings.specs.Lines.{less}
use Rattle.words.proofs.Span.{lt-tri}

-- below 0 with a minus, else without
pub less-apart : (above below : ℕ)
    → cond (ltb above below) (45 ∷ decimal (abs_diff above below)) (decimal (abs_diff above below)) ≡ less above below
unfolding less
less-apart above below = go (lt-tri above below)
  where
    from : above < below → cond (ltb above below) (45 ∷ decimal (abs_diff above below)) (decimal (abs_diff above below))
        ≡ cond (ltb above below) (45 ∷ decimal (below - above)) (decimal (above - below))
    from h = let e : abs_diff above below ≡ below - above = omega arith in rw (lt-ltb above below h, e)

    onto : below ≤ above → cond (ltb above below) (45 ∷ decimal (abs_diff above below)) (decimal (abs_diff above below))
        ≡ cond (ltb above below) (45 ∷ decimal (below - above)) (decimal (above - below))
    onto h = let e : abs_diff above below ≡ above - below = omega arith in rw (le-ltb above below h, e)

    go : (above < below) ⊎ ((above ≡ below) ⊎ (below < above)) → cond (ltb above below) (45 ∷ decimal (abs_diff above below)) (decimal (abs_diff above below))
        ≡ cond (ltb above below) (45 ∷ decimal (below - above)) (decimal (above - below))
    go (inl h) = from h
    go (inr (inl e)) = onto (omega arith)
    go (inr (inr h)) = onto (omega arith)
