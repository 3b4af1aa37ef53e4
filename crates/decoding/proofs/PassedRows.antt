-- The rows that are active in a section, by those that are live on either side of it.
use lib.ListN.{get_or, length, take}
use lib.Pow.{pow_mono}
use lib.Seq.{get_or-take, length-take-le}
use mathlib.Core.Bool.{Bool, cond, false, true}
use mathlib.Core.List.{List}
use mathlib.Core.Path.{ap, ap₂, refl, subst, sym, ◌∙◌, ◌≡◌}
use native.Mathlib.Nat.{lt_of_lt_of_le}
use native.Mathlib.Omega.{arith}
use Prim.Native.Nat.{◌%◌, ◌*◌, ◌+◌, ◌-◌, ◌<◌, ◌^◌, suc, zero, zero-le, ℕ, ◌≤◌}
use Rattle.decoding.proofs.BegunRows.{begun-row, next-only}
use Rattle.decoding.proofs.LiveMarks.{marks-below, with-beginning, with-ending, without-beginning}
use Rattle.decoding.specs.LiveRows.{BeginsHere, EndsAre, PlateRows, active_marks, begun_before, live_marks, mark_of}
use Rattle.trellises.proofs.AmongRows.{shifted_one}
use Rattle.trellises.proofs.OneBegins.{section-begins}
use Rattle.trellises.specs.SectionOf.{is_active, section_of}
use Rattle.words.proofs.Ends.{some-pos}
use Rattle.words.proofs.Span.{first-unique, last-unique}
use Rattle.words.specs.Ends.{FirstOne, LastOne, firsts, last, lasts}
use Rattle.words.specs.Span.{First, Last}

module _ {rows : List ℕ} {k : ℕ} (p : PlateRows rows k) where
  abbrev plate : List ℕ
  plate = take k rows

  pub counted : length (take k rows) ≡ k
  counted = let h : k ≤ length rows = omega (arith, p.table, p.few) in length-take-le k rows h

  -- a row of the table is a row of the plate
  module _ (j : ℕ) (h : j < k) where
    within : j < length plate
    within = omega (arith, counted)

    one_there : 0 < get_or rows j 0
    one_there = subst (λ (w : ℕ). 0 < w) (get_or-take k rows j 0 h) (some-pos (get_or plate j 0) (firsts plate j) (p.spans.first j within).one)

    pub row_first : {r : ℕ} → FirstOne (get_or rows j 0) r → r ≡ firsts (take k rows) j
    row_first {r} f =
        first-unique (f.some one_there) (subst (λ (w : ℕ). First w (firsts plate j)) (get_or-take k rows j 0 h) (p.spans.first j within))

    pub row_last : {r : ℕ} → LastOne (get_or rows j 0) r → r ≡ lasts (take k rows) j
    row_last {r} l =
        last-unique (l.some one_there) (subst (λ (w : ℕ). Last w (lasts plate j)) (get_or-take k rows j 0 h) (p.spans.last j within))

    pub row_ends : {r : ℕ} → LastOne (get_or rows j 0) r → r < 64
    unfolding last
    row_ends l = omega (arith, row_last l)

  -- ---- section t: what joins the live rows on one side, so that they are the active ones

  module _ (t : ℕ) where
    pub active-below : active_marks (take k rows) t < 2 ^ k
    active-below = subst (λ (n : ℕ). active_marks plate t < 2 ^ n) counted (marks-below (is_active t) plate)

    pub active-fits : {which : ℕ} → which ≡ active_marks (take k rows) t → which < 2 ^ 64
    active-fits e = subst (λ (w : ℕ). w < 2 ^ 64) (sym e) (lt_of_lt_of_le active-below (pow_mono p.few))

    -- the next row to begin, where it begins here
    module _ {next : ℕ} (b : next ≡ begun_before (take k rows) t) where
      none-joins : (next < k → firsts (take k rows) next ≡ t → ⊥) → live_marks (take k rows) t + 0 ≡ active_marks (take k rows) t
      none-joins n =
          let here : begun_before plate t < length plate → firsts plate (begun_before plate t) ≡ t → ⊥ =
          λ l e. n (omega (arith, counted)) (ap (firsts plate) b ∙ e) in
          omega (arith, without-beginning plate p.spans t (next-only plate p.spans t here))

      next-joins : next < k → firsts (take k rows) next ≡ t → live_marks (take k rows) t + 1 * 2 ^ next % 2 ^ 64 ≡ active_marks (take k rows) t
      next-joins h e =
          ap (λ (m : ℕ). live_marks plate t + m) (shifted_one next (omega (arith, p.few)))
          ∙ with-beginning plate p.spans t next (omega (arith, counted)) e

      pub none_here : (next < k → firsts (take k rows) next ≡ t → ⊥) → BeginsHere (take k rows) t (record { row = 0; mark = 0 })
      none_here n = record { row = go (section_of plate t).begins refl; mark = none-joins n }
        where
          go : (g : Bool) → (section_of (take k rows) t).begins ≡ g → 0 ≡ cond g (get_or (take k rows) (begun_before (take k rows) t) 0) 0
          go false q = refl
          go true q =
              let a = (section-begins plate p.spans t).0 q in
              let e : next ≡ a.row = b ∙ begun-row plate p.spans t a in
              absurd (n (omega (arith, e, a.there, counted)) (ap (firsts plate) e ∙ a.here))

      pub next_here : next < k → firsts (take k rows) next ≡ t
          → BeginsHere (take k rows) t (record { row = get_or rows next 0; mark = 1 * 2 ^ next % 2 ^ 64 })
      next_here h e = record {
        row = sym (get_or-take k rows next 0 h) ∙ ap (λ (j : ℕ). get_or plate j 0) b
            ∙ sym (ap (λ (g : Bool). cond g (get_or plate (begun_before plate t) 0) 0) ((section-begins plate p.spans t).1 (record { row = next; there = omega (arith, counted); here = e })));
        mark = next-joins h e;
      }

    -- the row that ends here
    module _ {ends : List ℕ} (a : EndsAre (take k rows) ends) (h : t < 64) where
      pub ending-few : get_or ends t 0 ≤ 64
      ending-few = go (get_or ends t 0) refl
        where
          go : (n : ℕ) → get_or ends t 0 ≡ n → n ≤ 64
          go zero q = zero-le
          go (suc j) q = let s = a.some t j h q in omega (arith, counted, p.few)

      pub ending-joins : {live mark : ℕ} → live ≡ live_marks (take k rows) (suc t) → mark ≡ mark_of (get_or ends t 0) → live + mark ≡ active_marks (take k rows) t
      ending-joins l m = ap₂ ◌+◌ l m ∙ with-ending plate p.spans ends t a h

-- the bit of a row, by one more than the row
pub mark-is : (n : ℕ) → (n ≡ 0 → ⊥) → n ≤ 64 → 1 * 2 ^ (n - 1) % 2 ^ 64 ≡ mark_of n
mark-is zero z h = absurd (z refl)
mark-is (suc j) z h = let e : suc j - 1 ≡ j = omega arith in ap (λ (i : ℕ). 1 * 2 ^ i % 2 ^ 64) e ∙ shifted_one j h
