-- The laws of tallies: what is kept from line to line is what the lines add to, and no number of it goes beyond 64 bits.
use Rattle.plates.specs.declared.Refusal.{Refusal}
use Rattle.std.proofs.Common.{Option, Some, None, ◌≡◌, ℕ, suc, ◌+◌, ◌-◌, ◌*◌, ◌^◌, ◌≤◌, Bool, true, false, cond, eqb, ltb, List, [], ◌∷◌, length, ℤ, pos, nat_abs, sym, refl, ap, ◌∙◌, subst, arith, ltb-false, Result, Ok, Err}
use lib.Signed.{lt_z}
use Rattle.words.specs.Word.{bit}
use Rattle.plates.specs.declared.Plate.{Plate}
use Rattle.decoding.specs.declared.Answer.{Answer}
use Rattle.decoding.specs.Metric.{limit}
use Rattle.decoding.proofs.MetricBounds.{metric-within}
use Rattle.decoding.proofs.SampleLimits.{none_over, samples-are-n}
use Rattle.listings.specs.declared.Tally.{Tally}
use Rattle.reports.specs.declared.tally.Standing.{Standing}
use Rattle.reports.specs.declared.tally.Standing.TheVariants as S
use Rattle.reports.specs.Remaining.{HasRoom}
use Rattle.reports.specs.Report.{BlockAnswer}
use Rattle.reports.specs.Tally.{Heard, advance, found_share, gained, is_zero, lost, no_tally, opposes, opposing, plus, raised, raised_by, reference_of, share, standing, standing_by, tally_from, zeros}

-- ---- equal number by number

abbrev made : ℕ → ℕ → ℕ → ℕ → ℕ → ℕ → ℕ → ℕ → ℕ → Tally
made d r p l m o z a b = record { decoded = d; refused = r; repeated = p; late = l; missing = m; opposing = o; zeros = z; above = a; below = b }

pub same-tally : (s t : Tally) → s.decoded ≡ t.decoded → s.refused ≡ t.refused → s.repeated ≡ t.repeated → s.late ≡ t.late → s.missing ≡ t.missing → s.opposing ≡ t.opposing → s.zeros ≡ t.zeros → s.above ≡ t.above → s.below ≡ t.below → s ≡ t
same-tally s t h0 h1 h2 h3 h4 h5 h6 h7 h8 =
    ap (λ (x : ℕ). made x s.refused s.repeated s.late s.missing s.opposing s.zeros s.above s.below) h0
    ∙ ap (λ (x : ℕ). made t.decoded x s.repeated s.late s.missing s.opposing s.zeros s.above s.below) h1
    ∙ ap (λ (x : ℕ). made t.decoded t.refused x s.late s.missing s.opposing s.zeros s.above s.below) h2
    ∙ ap (λ (x : ℕ). made t.decoded t.refused t.repeated x s.missing s.opposing s.zeros s.above s.below) h3
    ∙ ap (λ (x : ℕ). made t.decoded t.refused t.repeated t.late x s.opposing s.zeros s.above s.below) h4
    ∙ ap (λ (x : ℕ). made t.decoded t.refused t.repeated t.late t.missing x s.zeros s.above s.below) h5
    ∙ ap (λ (x : ℕ). made t.decoded t.refused t.repeated t.late t.missing t.opposing x s.above s.below) h6
    ∙ ap (λ (x : ℕ). made t.decoded t.refused t.repeated t.late t.missing t.opposing t.zeros x s.below) h7
    ∙ ap (λ (x : ℕ). made t.decoded t.refused t.repeated t.late t.missing t.opposing t.zeros t.above x) h8

-- ---- sums

pub plus_assoc : (s t u : Tally) → plus (plus s t) u ≡ plus s (plus t u)
plus_assoc s t u = same-tally (plus (plus s t) u) (plus s (plus t u)) (omega arith) (omega arith) (omega arith) (omega arith) (omega arith) (omega arith) (omega arith) (omega arith) (omega arith)

pub none-plus : (s : Tally) → plus no_tally s ≡ s
none-plus s = same-tally (plus no_tally s) s (omega arith) (omega arith) (omega arith) (omega arith) (omega arith) (omega arith) (omega arith) (omega arith) (omega arith)

pub plus_none : (s : Tally) → plus s no_tally ≡ s
plus_none s = same-tally (plus s no_tally) s (omega arith) (omega arith) (omega arith) (omega arith) (omega arith) (omega arith) (omega arith) (omega arith) (omega arith)

-- ---- decoded, refused and repeated lines together are the heard lines

one_each : (reference : Option ℕ) (counter : ℕ) (samples : List ℤ) (d : Result Answer Refusal)
    → (share reference counter samples d).decoded + (share reference counter samples d).refused + (share reference counter samples d).repeated ≡ 1
one_each reference counter samples (Err q) = refl
one_each reference counter samples (Ok a) = by (standing reference counter)
  where
    by : (at : Standing) → (found_share at samples a).decoded + (found_share at samples a).refused + (found_share at samples a).repeated ≡ 1
    by S.First = refl
    by S.Repeat = refl
    by S.OutOfTurn = refl
    by (S.Onward missing) = refl

pub together : (reference : Option ℕ) (hs : List Heard) → (tally_from reference hs).decoded + (tally_from reference hs).refused + (tally_from reference hs).repeated ≡ length hs
together reference [] = refl
together reference (h ∷ hs) =
    omega (arith, one_each reference h.counter h.samples h.reply, together (reference_of reference h.counter h.reply) hs)

-- ---- what one line may add

pub record Small (t : Tally) : Type 0 where
  pub decoded : t.decoded ≤ 131008
  pub refused : t.refused ≤ 131008
  pub repeated : t.repeated ≤ 131008
  pub late : t.late ≤ 131008
  pub missing : t.missing ≤ 131008
  pub opposing : t.opposing ≤ 131008
  pub zeros : t.zeros ≤ 131008
  pub above : t.above ≤ 131008
  pub below : t.below ≤ 131008

case-small : (t : Bool) (k m : ℕ) → k ≤ m → cond t 1 0 + k ≤ suc m
case-small true k m h = omega arith
case-small false k m h = omega arith

opposing-small : (word position : ℕ) (samples : List ℤ) → opposing word position samples ≤ length samples
opposing-small word position [] = omega arith
opposing-small word position (y ∷ ys) = case-small (opposes y (bit word position)) (opposing word (position + 1) ys) (length ys) (opposing-small word (position + 1) ys)

zeros-small : (samples : List ℤ) → zeros samples ≤ length samples
zeros-small [] = omega arith
zeros-small (y ∷ ys) = case-small (is_zero y) (zeros ys) (length ys) (zeros-small ys)

gained-small : (z : ℤ) (m : ℕ) → nat_abs z ≤ m → gained z ≤ m
gained-small z m h = by (lt_z z (pos 0))
  where
    by : (t : Bool) → cond t 0 (nat_abs z) ≤ m
    by true = omega arith
    by false = h

lost-small : (z : ℤ) (m : ℕ) → nat_abs z ≤ m → lost z ≤ m
lost-small z m h = by (lt_z z (pos 0))
  where
    by : (t : Bool) → cond t (nat_abs z) 0 ≤ m
    by true = h
    by false = omega arith

-- the missing of a line that goes onward
abbrev MissingSmall : Standing → Type 0
MissingSmall S.First = Unit {0}
MissingSmall S.Repeat = Unit {0}
MissingSmall S.OutOfTurn = Unit {0}
MissingSmall (S.Onward missing) = missing ≤ 32766

standing-small : (step : ℕ) → MissingSmall (standing_by step)
standing-small step = by (eqb step 0) (ltb 32767 step) refl
  where
    by : (t u : Bool) → ltb 32767 step ≡ u → MissingSmall (cond t S.Repeat (cond u S.OutOfTurn (S.Onward (step - 1))))
    by true u e = tt
    by false true e = tt
    by false false e = omega (arith, ltb-false 32767 step e)

missing-small : (reference : Option ℕ) (counter : ℕ) → MissingSmall (standing reference counter)
missing-small None counter = tt
missing-small (Some before) counter = standing-small (advance counter before)

module _ (plate : Plate) (few : plate.n ≤ 64) (reference : Option ℕ) (counter : ℕ) (samples : List ℤ) where
  found-small : (a : Answer) → length samples ≤ 64 → nat_abs a.metric ≤ 131008 → (at : Standing) → MissingSmall at → Small (found_share at samples a)
  found-small a l m S.First k = record { decoded = omega arith; refused = omega arith; repeated = omega arith; late = omega arith; missing = omega arith; opposing = omega (arith, opposing-small a.word 0 samples); zeros = omega (arith, zeros-small samples); above = gained-small a.metric 131008 m; below = lost-small a.metric 131008 m }
  found-small a l m S.Repeat k = record { decoded = omega arith; refused = omega arith; repeated = omega arith; late = omega arith; missing = omega arith; opposing = omega arith; zeros = omega arith; above = omega arith; below = omega arith }
  found-small a l m S.OutOfTurn k = record { decoded = omega arith; refused = omega arith; repeated = omega arith; late = omega arith; missing = omega arith; opposing = omega (arith, opposing-small a.word 0 samples); zeros = omega (arith, zeros-small samples); above = gained-small a.metric 131008 m; below = lost-small a.metric 131008 m }
  found-small a l m (S.Onward missing) k = record { decoded = omega arith; refused = omega arith; repeated = omega arith; late = omega arith; missing = omega arith; opposing = omega (arith, opposing-small a.word 0 samples); zeros = omega (arith, zeros-small samples); above = gained-small a.metric 131008 m; below = lost-small a.metric 131008 m }

  pub share-small : (d : Result Answer Refusal) → BlockAnswer plate samples d → Small (share reference counter samples d)
  share-small (Err q) x = record { decoded = omega arith; refused = omega arith; repeated = omega arith; late = omega arith; missing = omega arith; opposing = omega arith; zeros = omega arith; above = omega arith; below = omega arith }
  share-small (Ok a) x =
      let count = samples-are-n plate samples x.0.0 in
      let metric : nat_abs a.metric ≤ 131008 =
      subst (λ (z : ℤ). nat_abs z ≤ 131008) (sym x.1.metric) (omega (arith, metric-within limit samples (none_over samples x.0.1.0) a.word, count)) in
      found-small a (omega (arith, count)) metric (standing reference counter) (missing-small reference counter)

-- ---- what is kept has room, and is the sum

raised_is : (x y k : ℕ) → x + 131008 * suc k ≤ 2 ^ 62 → y ≤ 131008 → raised x y ≡ x + y
raised_is x y k h l = omega arith

fewer : (x k : ℕ) → x + 131008 * suc k ≤ 2 ^ 62 → x + 131008 * k ≤ 2 ^ 62
fewer x k h = omega arith

more_room : (x y k : ℕ) → x + 131008 * suc k ≤ 2 ^ 62 → y ≤ 131008 → x + y + 131008 * k ≤ 2 ^ 62
more_room x y k h l = omega arith

pub raised-plus : (s t : Tally) (k : ℕ) → HasRoom s (suc k) → Small t → raised_by s t ≡ plus s t
raised-plus s t k r m = same-tally (raised_by s t) (plus s t) (raised_is s.decoded t.decoded k r.decoded m.decoded) (raised_is s.refused t.refused k r.refused m.refused) (raised_is s.repeated t.repeated k r.repeated m.repeated) (raised_is s.late t.late k r.late m.late) (raised_is s.missing t.missing k r.missing m.missing) (raised_is s.opposing t.opposing k r.opposing m.opposing) (raised_is s.zeros t.zeros k r.zeros m.zeros) (raised_is s.above t.above k r.above m.above) (raised_is s.below t.below k r.below m.below)

pub room-left : (s t : Tally) (k : ℕ) → HasRoom s (suc k) → Small t → HasRoom (plus s t) k
room-left s t k r m = record {
  decoded = more_room s.decoded t.decoded k r.decoded m.decoded;
  refused = more_room s.refused t.refused k r.refused m.refused;
  repeated = more_room s.repeated t.repeated k r.repeated m.repeated;
  late = more_room s.late t.late k r.late m.late;
  missing = more_room s.missing t.missing k r.missing m.missing;
  opposing = more_room s.opposing t.opposing k r.opposing m.opposing;
  zeros = more_room s.zeros t.zeros k r.zeros m.zeros;
  above = more_room s.above t.above k r.above m.above;
  below = more_room s.below t.below k r.below m.below;
}

pub room-stays : (s : Tally) (k : ℕ) → HasRoom s (suc k) → HasRoom s k
room-stays s k r = record { decoded = fewer s.decoded k r.decoded; refused = fewer s.refused k r.refused; repeated = fewer s.repeated k r.repeated; late = fewer s.late k r.late; missing = fewer s.missing k r.missing; opposing = fewer s.opposing k r.opposing; zeros = fewer s.zeros k r.zeros; above = fewer s.above k r.above; below = fewer s.below k r.below }

pub room-at-first : (k : ℕ) → k ≤ 32769 → HasRoom no_tally k
room-at-first k h = record { decoded = omega arith; refused = omega arith; repeated = omega arith; late = omega arith; missing = omega arith; opposing = omega arith; zeros = omega arith; above = omega arith; below = omega arith }
