-- What holds of an accepted plate besides demands 1 to 3: its profile by dimensions, its last ones, the range of a metric, the parity checks of its
-- code, and that the numbers of a section, from which the code works, are those of the trellis.
use Rattle.std.proofs.Common.{Ok}
use lib.Dec.{leb, ltb}
use lib.IntN.{nat_abs, ℤ}
use lib.ListN.{get_or, length}
use mathlib.Core.List.{List}
use mathlib.Core.Logic.Iff
use mathlib.Core.Logic.{◌↔◌}
use mathlib.Core.Path.{ap, refl, subst, sym, ◌∙◌, ◌≡◌}
use native.Mathlib.Decide.{dec_le}
use native.Mathlib.Omega.{arith}
use Prim.Native.Nat.{◌*◌, ◌-◌, ◌<◌, ◌^◌, ℕ, ◌≤◌}
use Rattle.decoding.proofs.MetricBounds.{metric-within}
use Rattle.decoding.proofs.SampleLimits.{none_over, samples-are-n}
use Rattle.decoding.specs.Apart.{Measures}
use Rattle.decoding.specs.declared.Answer.{Answer}
use Rattle.decoding.specs.declared.apart.Measure.{Measure}
use Rattle.decoding.specs.Decode.{Decodes, SampleOver, sample_count}
use Rattle.decoding.specs.Metric.{limit, metric_of}
use Rattle.demands.proofs.ParityChecks.{sums-checked}
use Rattle.demands.specs.Accepted.{ParityChecks, SaysSection, ZeroBefore, ZeroFrom, branch_of}
use Rattle.plates.proofs.OneDimension.{one-dimension}
use Rattle.plates.proofs.ProfileDimensions.{dimension-before, dimension-from, profile, whole-dimension}
use Rattle.plates.proofs.SoundIsPrepared.{sound, used-row, used-rows}
use Rattle.plates.specs.Code.{InCode}
use Rattle.plates.specs.declared.Kind.{Kind}
use Rattle.plates.specs.declared.Kind.TheVariants.{G}
use Rattle.plates.specs.declared.Plate.{Plate}
use Rattle.plates.specs.declared.Prepared.{Prepared}
use Rattle.plates.specs.declared.Refusal.{Refusal}
use Rattle.plates.specs.declared.Refusal.TheVariants.{NotPrepared}
use Rattle.plates.specs.Dimension.{Dimension}
use Rattle.plates.specs.Prepare.{IsPrepared, Prepares, not_prepared, rows_of}
use Rattle.reports.specs.Report.{BlockAnswer}
use Rattle.trellises.proofs.AcceptedIsPrepared.{accepted, accepted-code, accepted-prepared, code_below}
use Rattle.trellises.proofs.SectionAgrees.{Agrees, chosen, section-agrees}
use Rattle.trellises.proofs.TrellisSpells.{table_at, table-length}
use Rattle.trellises.specs.Branching.{code_trellis}
use Rattle.trellises.specs.Graph.{Branch, branch_at}
use Rattle.trellises.specs.SectionOf.{section_of}
use Rattle.trellises.specs.Smallest.{active_at}
use Rattle.words.proofs.Span.{last-unique}
use Rattle.words.proofs.Sums.{in_row}
use Rattle.words.specs.Choice.{count}
use Rattle.words.specs.Ends.{firsts, lasts}
use Rattle.words.specs.Span.{Last, Spans}
use Rattle.words.specs.Sum.{IsSum}
use Rattle.trellises.specs.States as T

-- a set of the same words has the same dimension
same-dimension : (S R : ℕ → Type 0) → ((w : ℕ) → S w ↔ R w) → (d : ℕ) → Dimension S d → Dimension R d
same-dimension S R e d x = record {
  basis = x.basis;
  size = x.size;
  spans = λ w. ((λ g. (e w).0 ((x.spans w).0 g)), λ r. (x.spans w).1 ((e w).1 r));
  different = x.different;
}

-- A matrix as G or H and a mask, and what preparing them replies where it accepts
module _ (n : ℕ) (kind : Kind) (rows : List ℕ) (mask : ℕ) (r : Prepared) (p : Prepares n kind rows mask r) (e : r.verdict ≡ Ok tt) where
  spans : Spans (rows_of r.plate) (firsts (rows_of r.plate)) (lasts (rows_of r.plate))
  spans = (sound (accepted-prepared n kind rows mask r p e)).reduced.spans

  size : length (rows_of r.plate) ≡ r.plate.k
  size = used-rows r.plate (sound (accepted-prepared n kind rows mask r p e)).few (sound (accepted-prepared n kind rows mask r p e)).table

  sums-are : (w : ℕ) → IsSum (rows_of r.plate) w ↔ InCode kind n rows w
  sums-are w = Iff.symm (accepted-code n kind rows mask r p e w)

  -- ---- the profile

  -- k is the dimension of the code
  pub k-is-dimension : Dimension (InCode kind n rows) r.plate.k
  k-is-dimension =
      subst (Dimension (InCode kind n rows)) size
      (same-dimension (IsSum (rows_of r.plate)) (InCode kind n rows) sums-are _ (whole-dimension (rows_of r.plate) _ _ spans))

  from-sums : (t w : ℕ) → ZeroFrom (IsSum (rows_of r.plate)) t w ↔ ZeroFrom (InCode kind n rows) t w
  from-sums t w = ((λ x. ((sums-are w).0 x.0, x.1)), λ x. ((sums-are w).1 x.0, x.1))

  before-sums : (t w : ℕ) → ZeroBefore (IsSum (rows_of r.plate)) t w ↔ ZeroBefore (InCode kind n rows) t w
  before-sums t w = ((λ x. ((sums-are w).0 x.0, x.1)), λ x. ((sums-are w).1 x.0, x.1))

  from-dimension : (t : ℕ) → Dimension (ZeroFrom (InCode kind n rows) t) (count (length (rows_of r.plate)) (λ j. ltb (lasts (rows_of r.plate) j) t))
  from-dimension t =
      same-dimension (ZeroFrom (IsSum (rows_of r.plate)) t) (ZeroFrom (InCode kind n rows) t) (from-sums t) _ (dimension-from (rows_of r.plate) _ _ spans t)

  before-dimension : (t : ℕ) → Dimension (ZeroBefore (InCode kind n rows) t) (count (length (rows_of r.plate)) (λ j. leb t (firsts (rows_of r.plate) j)))
  before-dimension t =
      same-dimension (ZeroBefore (IsSum (rows_of r.plate)) t) (ZeroBefore (InCode kind n rows) t) (before-sums t) _
      (dimension-before (rows_of r.plate) _ _ spans t)

  -- the codewords that are zero from t on have a dimension, and so have those that are zero before t
  pub side-dimensions : (t : ℕ) → (d : ℕ) × (b : ℕ) × Dimension (ZeroFrom (InCode kind n rows) t) d × Dimension (ZeroBefore (InCode kind n rows) t) b
  side-dimensions t = (_, _, from-dimension t, before-dimension t)

  -- s(t) is k minus the dimension of the codewords zero from t on, minus the dimension of the codewords zero before t
  pub entry-by-dimensions : (t d b : ℕ) → t ≤ n → Dimension (ZeroFrom (InCode kind n rows) t) d → Dimension (ZeroBefore (InCode kind n rows) t) b
      → get_or r.plate.profile t 0 ≡ r.plate.k - d - b
  entry-by-dimensions t d b h x y =
      omega (
        arith,
        (accepted n kind rows mask r p e).1.profile t h,
        profile (rows_of r.plate) _ _ spans t,
        one-dimension (ZeroFrom (InCode kind n rows) t) d _ x (from-dimension t),
        one-dimension (ZeroBefore (InCode kind n rows) t) b _ y (before-dimension t),
        size,
      )

  -- ---- last ones

  -- no two rows share a last one
  pub no-shared-last-one : (i j q : ℕ) → i < r.plate.k → j < r.plate.k → Last (get_or r.plate.rows i 0) q → Last (get_or r.plate.rows j 0) q → i ≡ j
  no-shared-last-one i j q h k x y =
      spans.apart i j (omega (arith, size)) (omega (arith, size)) (at i h x ∙ sym (at j k y))
    where
      at : (m : ℕ) → m < r.plate.k → Last (get_or r.plate.rows m 0) q → lasts (rows_of r.plate) m ≡ q
      at m l z = last-unique (spans.last m (omega (arith, size))) (subst (λ (w : ℕ). Last w q) (sym (used-row r.plate m l)) z)

  -- ---- sections

  -- the numbers of section t, from which the code works, say what the trellis of the plate's code has there; the mask's bit is added to each branch's
  pub section-is-trellis : (t : ℕ) → SaysSection (code_trellis r.plate) t (section_of (rows_of r.plate) t)
  section-is-trellis t = record {
    states = ap (λ (s : ℕ). 2 ^ s) (sym agreed.states);
    count = table-length (2 ^ active_at (rows_of r.plate) t) own ∙ sym agreed.branches;
    branch = λ v h. one v (omega (arith, h, agreed.branches));
  }
    where
      agreed : Agrees (rows_of r.plate) t (section_of (rows_of r.plate) t)
      agreed = section-agrees (rows_of r.plate) spans t

      own : ℕ → Branch
      own v = T.branch_of (rows_of r.plate) (firsts (rows_of r.plate)) (lasts (rows_of r.plate)) t (chosen (rows_of r.plate) t v)

      one : (v : ℕ) → v < 2 ^ active_at (rows_of r.plate) t → branch_at (code_trellis r.plate) t v ≡ branch_of (section_of (rows_of r.plate) t) v
      one v h =
          table_at (2 ^ active_at (rows_of r.plate) t) own v h
          ∙ (λ i. record { from = sym (agreed.from_state v) i; out = sym (agreed.spells v) i; to = sym (agreed.to_state v h) i })

-- ---- the code of a matrix given as G

-- there is a parity-check matrix of it, so that Wolf's statement speaks of one
pub parity-checks-exist : (n : ℕ) (rows : List ℕ) (mask : ℕ) (r : Prepared) → Prepares n G rows mask r → r.verdict ≡ Ok tt
    → (checks : List ℕ) × ParityChecks (InCode G n rows) n checks
parity-checks-exist n rows mask r p e =
    sums-checked n rows (λ j h. code_below G n rows (accepted n G rows mask r p e).0.1.1.0 (get_or rows j 0) (in_row rows j))

-- ---- metrics

module _ (plate : Plate) (samples : List ℤ) where
  -- a plate that is not refused is no longer than 64
  short : ((q : Refusal) → not_prepared plate q → ⊥) → plate.n ≤ 64
  short passes = go (dec_le plate.n 64)
    where
      go : Dec (plate.n ≤ 64) → plate.n ≤ 64
      go (yes h) = h
      go (no h) = absurd (passes NotPrepared ((λ g. h (sound g).short), refl))

  -- the metric of any word, with samples that are not refused
  metric-lies : ((q : Refusal) → sample_count plate samples q → ⊥) → ((q : Refusal) → SampleOver samples q → ⊥) → (w : ℕ) (m : ℤ) → m ≡ metric_of samples w
      → nat_abs m ≤ 2047 * plate.n
  metric-lies counted over w m e =
      subst (λ (z : ℤ). nat_abs z ≤ 2047 * plate.n) (sym e)
      (subst (λ (k : ℕ). nat_abs (metric_of samples w) ≤ 2047 * k) (samples-are-n plate samples counted) (metric-within limit samples (none_over samples over) w))

  -- of decode: within 2047 n, and so within 131,008
  pub decode-metric-lies : (metrics metrics' : List ℤ) (decisions decisions' : List ℕ) (a : Answer)
      → Decodes plate samples metrics decisions metrics' decisions' (Ok a) → (nat_abs a.metric ≤ 2047 * plate.n) × (nat_abs a.metric ≤ 131008)
  decode-metric-lies metrics metrics' decisions decisions' a d =
      let h = metric-lies d.0.1.0 d.0.1.1.0 a.word a.metric d.1.metric in
      (h, omega (arith, h, short d.0.0))

  -- of the metric call
  pub metric-call-lies : (metrics metrics' : List ℤ) (m : Measure) → Measures plate samples metrics metrics' (Ok m)
      → (nat_abs m.metric ≤ 2047 * plate.n) × (nat_abs m.metric ≤ 131008)
  metric-call-lies metrics metrics' m d =
      let h = metric-lies d.0.1.0 d.0.1.1.0 d.1.word m.metric d.1.metric in
      (h, omega (arith, h, short d.0.0))

  -- of a listing's line for a block of an accepted plate
  pub listed-metric-lies : IsPrepared plate → (a : Answer) → BlockAnswer plate samples (Ok a)
      → (nat_abs a.metric ≤ 2047 * plate.n) × (nat_abs a.metric ≤ 131008)
  listed-metric-lies g a x =
      let h = metric-lies x.0.0 x.0.1.0 a.word a.metric x.1.metric in
      (h, omega (arith, h, (sound g).short))
