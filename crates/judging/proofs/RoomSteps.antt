-- The working room step by step: a line put into it, and a line looked up.
use Rattle.std.proofs.Common.{None, Option, Some}
use lib.ListN.{length, length-set, set}
use lib.Seq.{get_or-set_other, get_or-set_same}
use mathlib.Core.List.{List}
use mathlib.Core.Logic.{inl, inr, ◌⊎◌}
use mathlib.Core.Path.{ap, refl, subst, sym, ◌∙◌, ◌≡◌}
use native.Mathlib.Decide.{dec_lt}
use native.Mathlib.Omega.{arith}
use Prim.Native.Nat.{◌*◌, ◌+◌, ◌-◌, ◌<◌, ℕ, ◌≤◌}
use Rattle.sheets.specs.declared.listed.Branch.{Branch}
use Rattle.judging.specs.Listing.{branch_at}
use Rattle.judging.specs.Room.{LineFrom, Put, Stored, key_of, key_test, lead_at, start_at}
use Rattle.judging.specs.Working.{FirstFound}

-- ---- one line

pub put-done : (room : List ℕ) (line k : ℕ) (b : Branch) → 4 * line + 4 ≤ length room → k ≡ key_of b.depth b.from b.bit
    → Put room line b (set (set room (4 * line) k) (4 * line + 1) b.to)
put-done room line k b l e = record {
  size = length-set (set room (4 * line) k) (4 * line + 1) b.to ∙ length-set room (4 * line) k;
  start = get_or-set_other (set room (4 * line) k) (4 * line + 1) (4 * line) b.to 0 (λ q. omega (arith, q)) ∙ get_or-set_same room (4 * line) k 0 (omega arith) ∙ e;
  lead = get_or-set_same (set room (4 * line) k) (4 * line + 1) b.to 0 (omega (arith, length-set room (4 * line) k));
  others = λ i d. get_or-set_other (set room (4 * line) k) (4 * line + 1) i b.to 0 (λ q. apart i d 1 (omega arith) (sym q))
      ∙ get_or-set_other room (4 * line) i k 0 (λ q. apart i d 0 (omega arith) (omega (arith, q)));
}
  where
    apart : (i : ℕ) → (i < 4 * line) ⊎ (4 * line + 4 ≤ i) → (x : ℕ) → x < 4 → 4 * line + x ≡ i → ⊥
    apart i (inl d) x m q = omega arith
    apart i (inr d) x m q = omega arith

-- ---- one line more

module _ (es : List (Option Branch)) (i : ℕ) (room room' : List ℕ) (b : Branch) (s : Stored es i room) (p : Put room i b room') (e : b ≡ branch_at es i) where
  pub stored_more : Stored es (i + 1) room'
  stored_more = record { start = λ j l. start j l (dec_lt j i); lead = λ j l. lead j l (dec_lt j i) }
    where
      start : (j : ℕ) → j < i + 1 → Dec (j < i) → start_at room' j ≡ key_of (branch_at es j).depth (branch_at es j).from (branch_at es j).bit
      start j l (yes d) = p.others (4 * j) (inl (omega arith)) ∙ s.start j d
      start j l (no d) =
          let q : i ≡ j = omega arith in
          subst (λ (j : ℕ). start_at room' j ≡ key_of (branch_at es j).depth (branch_at es j).from (branch_at es j).bit) q
          (p.start ∙ ap (λ (x : Branch). key_of x.depth x.from x.bit) e)

      lead : (j : ℕ) → j < i + 1 → Dec (j < i) → lead_at room' j ≡ (branch_at es j).to
      lead j l (yes d) = p.others (4 * j + 1) (inl (omega arith)) ∙ s.lead j d
      lead j l (no d) =
          let q : i ≡ j = omega arith in
          subst (λ (j : ℕ). lead_at room' j ≡ (branch_at es j).to) q (p.lead ∙ ap (λ (x : Branch). x.to) e)

pub stored-none : (es : List (Option Branch)) (room : List ℕ) → Stored es 0 room
stored-none es room = record { start = λ j l. absurd (omega arith); lead = λ j l. absurd (omega arith) }

-- ---- a line looked up

pub line-none : (room : List ℕ) (lines t u b : ℕ) → u ≡ 0 → LineFrom room lines t u b None
line-none room lines t u b e = record { none = λ q. refl; some = λ v q. absurd (omega (arith, e, q)); there = λ j q. cc }

pub line-some : (room : List ℕ) (lines t u b : ℕ) (r : Option ℕ) (k : ℕ) → (u ≡ 0 → ⊥) → k ≡ key_of t (u - 1) b → FirstFound lines (key_test room k) r
    → LineFrom room lines t u b r
line-some room lines t u b r k d e f = record {
  none = λ q. absurd (d q);
  some = λ v q.
      let z : u - 1 ≡ v = omega (arith, q) in
      subst (λ (k : ℕ). FirstFound lines (key_test room k) r) (e ∙ ap (λ (x : ℕ). key_of t x b) z) f;
  there = there r f;
}
  where
    there : (r : Option ℕ) → FirstFound lines (key_test room k) r → (j : ℕ) → r ≡ Some j → j < lines
    there (Some i) f j q = let z : i ≡ j = cc in subst (λ (x : ℕ). x < lines) z f.there
    there None f j q = absurd cc
