-- The sum of metrics is the tally's sum of those above 0 less its sum of those below 0.
use Rattle.plates.specs.declared.Refusal.{Refusal}
use Rattle.decoding.specs.declared.Answer.{Answer}
use Rattle.std.proofs.Common.{Option, ◌≡◌, ℕ, suc, Bool, cond, List, [], ◌∷◌, ℤ, pos, negsuc, ◌+ℤ◌, sym, refl, ap, ◌∙◌, ap₂, zero-le, le-ltb, Result, Ok, Err}
use lib.IntN.{+ℤ_assoc, +ℤ_comm, +ℤ_idr, +ℤ_invl, pos-+ℤ-pos}
use Rattle.listings.specs.declared.Tally.{Tally}
use Rattle.reports.specs.declared.tally.Standing.{Standing}
use Rattle.reports.specs.declared.tally.Standing.TheVariants as S
use Rattle.reports.specs.Tally.{Heard, found_share, gained, lost, metric_by, metric_share, metrics_from, reference_of, share, standing, tally_from}

-- one metric
one-summed : (m : ℤ) → m +ℤ pos (lost m) ≡ pos (gained m)
one-summed (pos k) =
    ap (λ (b : Bool). pos k +ℤ pos (cond b k 0)) (le-ltb k 0 zero-le) ∙ +ℤ_idr (pos k) ∙ sym (ap (λ (b : Bool). pos (cond b 0 k)) (le-ltb k 0 zero-le))
one-summed (negsuc k) = +ℤ_invl (pos (suc k))

-- one line
share-summed : (reference : Option ℕ) (counter : ℕ) (samples : List ℤ) (d : Result Answer Refusal)
    → metric_share reference counter d +ℤ pos (share reference counter samples d).below ≡ pos (share reference counter samples d).above
share-summed reference counter samples (Err q) = refl
share-summed reference counter samples (Ok a) = by (standing reference counter)
  where
    by : (at : Standing) → metric_by at a.metric +ℤ pos (found_share at samples a).below ≡ pos (found_share at samples a).above
    by S.First = one-summed a.metric
    by S.Repeat = refl
    by S.OutOfTurn = one-summed a.metric
    by (S.Onward missing) = one-summed a.metric

-- a sum of sums, taken the other way
exchange : (a b c d : ℤ) → (a +ℤ b) +ℤ (c +ℤ d) ≡ (a +ℤ c) +ℤ (b +ℤ d)
exchange a b c d =
    +ℤ_assoc a b (c +ℤ d) ∙ ap (λ (x : ℤ). a +ℤ x) (sym (+ℤ_assoc b c d) ∙ ap (λ (x : ℤ). x +ℤ d) (+ℤ_comm b c) ∙ +ℤ_assoc c b d)
    ∙ sym (+ℤ_assoc a c (b +ℤ d))

pub metrics-summed : (reference : Option ℕ) (hs : List Heard) → metrics_from reference hs +ℤ pos (tally_from reference hs).below ≡ pos (tally_from reference hs).above
metrics-summed reference [] = refl
metrics-summed reference (h ∷ hs) =
    ap (λ (x : ℤ). (m +ℤ metrics_from next hs) +ℤ x) (sym (pos-+ℤ-pos s.below (tally_from next hs).below))
    ∙ exchange m (metrics_from next hs) (pos s.below) (pos (tally_from next hs).below)
    ∙ ap₂ ◌+ℤ◌ (share-summed reference h.counter h.samples h.reply) (metrics-summed next hs)
    ∙ pos-+ℤ-pos s.above (tally_from next hs).above
  where
    next : Option ℕ
    next = reference_of reference h.counter h.reply

    m : ℤ
    m = metric_share reference h.counter h.reply

    s : Tally
    s = share reference h.counter h.samples h.reply
