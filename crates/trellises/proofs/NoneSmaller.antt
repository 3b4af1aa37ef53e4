-- No layered graph for the same code in the same order has fewer states at any depth or fewer branches in any section.
use lib.Bits.{bit_xor, differ, xor_comm}
use lib.ListN.{get_or, length}
use mathlib.Core.List.{List}
use mathlib.Core.Path.{ap, refl, subst, sym, ◌∙◌, ◌≡◌}
use native.Mathlib.Decide.{dec_lt}
use native.Mathlib.Omega.{arith}
use Prim.Native.Nat.{◌<◌, ◌^◌, suc, suc-le-suc, ℕ, ◌≤◌}
use Rattle.plates.proofs.Live.{live_is}
use Rattle.plates.specs.Profile.{live}
use Rattle.trellises.proofs.Active.{active-is}
use Rattle.trellises.proofs.Gluing.{splice-below, splice-high, splice-low, spliced}
use Rattle.trellises.specs.Beginnings.{splice}
use Rattle.trellises.specs.Graph.{Branch, Graph, Has, Path, Spells, branch_at, no_branch}
use Rattle.trellises.specs.States.{active}
use Rattle.words.proofs.Choice.{spread-injective}
use Rattle.words.proofs.Pigeonhole.{pigeonhole}
use Rattle.words.proofs.Span.{cut}
use Rattle.words.proofs.Sums.{in-xor}
use Rattle.words.proofs.Word.{bit-xor, differ_self, xor_assoc, xor-cancel}
use Rattle.words.specs.Choice.{count, more, spread}
use Rattle.words.specs.Span.{Spans}
use Rattle.words.specs.Sum.{IsSum, sum_of}
use Rattle.words.specs.Word.{bit}

module _ (g : Graph) (n : ℕ) (rows : List ℕ) (f l : ℕ → ℕ) (s : Spans rows f l) (r : Spells g n (IsSum rows)) where
  word : (x : ℕ) → (sum_of rows x < 2 ^ n) × Path g n (sum_of rows x)
  word x = (r.exact (sum_of rows x)).0 (record { by = x; sum = refl })

  -- the state of x's path at depth t
  at : ℕ → ℕ → ℕ
  at t x = (word x).1.state t

  -- Two sums whose paths meet at depth t, and whose words agree before q where they did not before t: they agree on each row across the two
  meet : (t q x y : ℕ) → t ≤ n → at t x ≡ at t y → ((i : ℕ) → t ≤ i → i < q → bit (sum_of rows x) i ≡ bit (sum_of rows y) i)
      → (j : ℕ) → j < length rows → f j < q → t ≤ l j → bit x j ≡ bit y j
  unfolding at
  meet t q x y h e more =
      let X : ℕ = sum_of rows x in
      let Y : ℕ = sum_of rows y in
      let Z : ℕ = splice t (sum_of rows x) (sum_of rows y) in
      let z : IsSum rows Z = (r.exact Z).1 (splice-below n t X Y h (word y).0, spliced g n t X Y (word x).1 (word y).1 e) in
      cut rows f l s x y (bit_xor Z Y) (bit_xor X Z) t q (sym (xor_comm (bit_xor Z Y) (bit_xor X Z) ∙ xor_assoc X Z (bit_xor Z Y) ∙ ap (bit_xor X) (xor-cancel Z Y)))
      (in-xor z (record { by = y; sum = refl })) (in-xor (record { by = x; sum = refl }) z)
      (λ i m. bit-xor i Z Y ∙ ap (λ (b : ℕ). differ b (bit Y i)) (splice-high t X Y i m) ∙ differ_self (bit Y i))
      (λ i m. bit-xor i X Z ∙ ap (differ (bit X i)) (low i m (dec_lt i t)) ∙ differ_self (bit X i))
    where
      low : (i : ℕ) → i < q → Dec (i < t) → bit (splice t (sum_of rows x) (sum_of rows y)) i ≡ bit (sum_of rows x) i
      low i m (yes d) = splice-low t (sum_of rows x) (sum_of rows y) i d
      low i m (no d) = splice-high t (sum_of rows x) (sum_of rows y) i (omega arith) ∙ sym (more i (omega arith) m)

  -- at least 2 ^ (number of rows live at t) states at depth t
  pub states-bound : (t : ℕ) → t ≤ n → 2 ^ count (length rows) (live f l t) ≤ g.states t
  unfolding at
  states-bound t h =
      pigeonhole (2 ^ count (length rows) (live f l t)) (g.states t) (λ v. at t (spread (length rows) (live f l t) v))
      (λ v d. (word (spread (length rows) (live f l t) v)).1.inside t h)
      (λ v w d e q. spread-injective (length rows) (live f l t) v w d e
      (λ j k a. meet t t (spread (length rows) (live f l t) v) (spread (length rows) (live f l t) w) h q (λ i m o. absurd (omega arith)) j k
      (live_is f l t j a).0 (live_is f l t j a).1))

  -- At least 2 ^ (number of rows active in section t) branches in section t, counting each once: any list that has them all is as long
  module _ (t : ℕ) (h : t < n) (once : List Branch)
      (all : (i : ℕ) → i < length (g.branches t) → (j : ℕ) × (j < length once) × (get_or once j no_branch ≡ branch_at g t i)) where
    step : (x : ℕ) → Has g t (at t x) (bit (sum_of rows x) t) (at (suc t) x)
    unfolding at
    step x = (word x).1.branch t h

    -- where the branch that x takes stands among them
    stands : (x : ℕ) → (j : ℕ) × (j < length once) × (get_or once j no_branch ≡ branch_at g t (step x).place)
    stands x = all (step x).place (step x).there

    same_branch : (x y : ℕ) → (stands x).0 ≡ (stands y).0 → branch_at g t (step x).place ≡ branch_at g t (step y).place
    same_branch x y q = sym (stands x).2 ∙ ap (λ (j : ℕ). get_or once j no_branch) q ∙ (stands y).2

    same_from : (x y : ℕ) → (stands x).0 ≡ (stands y).0 → at t x ≡ at t y
    same_from x y q = sym (step x).leaves ∙ ap (λ (b : Branch). b.from) (same_branch x y q) ∙ (step y).leaves

    same_out : (x y : ℕ) → (stands x).0 ≡ (stands y).0 → (i : ℕ) → t ≤ i → i < suc t → bit (sum_of rows x) i ≡ bit (sum_of rows y) i
    same_out x y q i m o =
        let e : t ≡ i = omega arith in
        subst (λ (i : ℕ). bit (sum_of rows x) i ≡ bit (sum_of rows y) i) e
        (sym (step x).spells ∙ ap (λ (b : Branch). b.out) (same_branch x y q) ∙ (step y).spells)

    pub branches-bound : 2 ^ count (length rows) (active f l t) ≤ length once
    branches-bound =
        pigeonhole (2 ^ count (length rows) (active f l t)) (length once) (λ v. (stands (spread (length rows) (active f l t) v)).0)
        (λ v d. (stands (spread (length rows) (active f l t) v)).1)
        (λ v w d e q. spread-injective (length rows) (active f l t) v w d e
        (λ j k a. meet t (suc t) (spread (length rows) (active f l t) v) (spread (length rows) (active f l t) w) (omega arith) (same_from _ _ q) (same_out _ _ q) j k
        (suc-le-suc (active-is f l t j a).0) (active-is f l t j a).1))
