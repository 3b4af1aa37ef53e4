-- The branches of the trellis are the branch numbers of its sections, and which numbers leave a state.
use lib.Bits.{bit_xor, differ, xor_shifted}
use lib.Pow.{low}
use mathlib.Core.Bool.{Bool, cond, false, true}
use mathlib.Core.List.{List}
use mathlib.Core.Logic.{inl, inr, ◌⊎◌}
use mathlib.Core.Path.{ap, refl, subst, sym, ◌∙◌, ◌≡◌}
use native.Mathlib.Decide.{dec_lt}
use native.Mathlib.Nat.{add_comm, mod-eq_of_lt, one-mul}
use native.Mathlib.Omega.{arith}
use Prim.Native.Nat.{◌%◌, ◌*◌, ◌+◌, ◌-◌, ◌<◌, ◌^◌, ℕ}
use Rattle.trellises.proofs.ParityDigits.{parity-power}
use Rattle.trellises.proofs.SectionAgrees.{Agrees, chosen}
use Rattle.trellises.proofs.TrellisSpells.{table_at, table-length}
use Rattle.trellises.specs.declared.Section.{Section}
use Rattle.trellises.specs.Graph.{Branch, Has, branch_at}
use Rattle.trellises.specs.Numbers.{bit_of, branch_count, leads_to, leaves}
use Rattle.trellises.specs.Smallest.{active_at}
use Rattle.trellises.specs.States.{branch_of, trellis}
use Rattle.words.proofs.Parity.{differ-mod, parity-xor}
use Rattle.words.specs.Ends.{firsts, lasts}
use Rattle.words.specs.Parity.{parity}
use Rattle.words.specs.Word.{bit}

-- a branch number of a section, which leaves a with bit b for `to`
pub record Numbered (c : Section) (a b to : ℕ) : Type 0 where
  pub number : ℕ
  pub below : number < branch_count c
  pub leaving : leaves c number ≡ a
  pub spells : bit_of c number ≡ b
  pub leads : leads_to c number ≡ to

module _ (rows : List ℕ) (t : ℕ) (c : Section) (g : Agrees rows t c) where
  -- the branch of the trellis that has the number v
  own : ℕ → Branch
  own v = branch_of rows (firsts rows) (lasts rows) t (chosen rows t v)

  pub has-number : (a b to : ℕ) → Has (trellis rows (firsts rows) (lasts rows)) t a b to → Numbered c a b to
  unfolding own
  has-number a b to h =
      let l : h.place < 2 ^ active_at rows t = subst (λ (n : ℕ). h.place < n) (table-length (2 ^ active_at rows t) own) h.there in
      let e : branch_at (trellis rows (firsts rows) (lasts rows)) t h.place ≡ own h.place = table_at (2 ^ active_at rows t) own h.place l in
      record {
        number = h.place;
        below = omega (arith, g.branches);
        leaving = g.from_state h.place ∙ ap (λ (x : Branch). x.from) (sym e) ∙ h.leaves;
        spells = g.spells h.place ∙ ap (λ (x : Branch). x.out) (sym e) ∙ h.spells;
        leads = g.to_state h.place l ∙ ap (λ (x : Branch). x.to) (sym e) ∙ h.leads;
      }

  pub number-has : (a b to : ℕ) → Numbered c a b to → Has (trellis rows (firsts rows) (lasts rows)) t a b to
  unfolding own
  number-has a b to m =
      let l : m.number < 2 ^ active_at rows t = omega (arith, m.below, g.branches) in
      let e : branch_at (trellis rows (firsts rows) (lasts rows)) t m.number ≡ own m.number = table_at (2 ^ active_at rows t) own m.number l in
      record {
        place = m.number;
        there = subst (λ (n : ℕ). m.number < n) (sym (table-length (2 ^ active_at rows t) own)) l;
        leaves = ap (λ (x : Branch). x.from) e ∙ sym (g.from_state m.number) ∙ m.leaving;
        spells = ap (λ (x : Branch). x.out) e ∙ sym (g.spells m.number) ∙ m.spells;
        leads = ap (λ (x : Branch). x.to) e ∙ sym (g.to_state m.number l) ∙ m.leads;
      }

-- ---- the branches that leave a state: its own number and, where a row begins, the one that takes that row too

module _ (c : Section) (a : ℕ) (h : a < 2 ^ c.live) where
  pub leaves-low : leaves c a ≡ a
  leaves-low = mod-eq_of_lt h

  pub leaves-high : leaves c (a + 2 ^ c.live) ≡ a
  leaves-high = ap (λ (x : ℕ). x % 2 ^ c.live) (omega arith) ∙ low 1 c.live h

  pub below-low : a < branch_count c
  below-low = go c.begins
    where
      go : (b : Bool) → a < cond b (2 ^ c.live + 2 ^ c.live) (2 ^ c.live)
      go true = omega arith
      go false = h

  pub below-high : c.begins ≡ true → a + 2 ^ c.live < branch_count c
  below-high e = rw e (omega arith)

  pub leaving-is : (x : ℕ) → x < branch_count c → leaves c x ≡ a → (x ≡ a) ⊎ ((c.begins ≡ true) × (x ≡ a + 2 ^ c.live))
  leaving-is x l e = go c.begins refl l (dec_lt x (2 ^ c.live))
    where
      go : (b : Bool) → c.begins ≡ b → x < cond b (2 ^ c.live + 2 ^ c.live) (2 ^ c.live) → Dec (x < 2 ^ c.live)
          → (x ≡ a) ⊎ ((c.begins ≡ true) × (x ≡ a + 2 ^ c.live))
      go b q m (yes s) = inl (sym (mod-eq_of_lt s) ∙ e)
      go true q m (no s) =
          let y : x ≡ 1 * 2 ^ c.live + (x - 2 ^ c.live) = omega arith in
          let z : x % 2 ^ c.live ≡ x - 2 ^ c.live = ap (λ (n : ℕ). n % 2 ^ c.live) y ∙ low 1 c.live (omega arith) in
          inr (q, omega arith)
      go false q m (no s) = absurd (omega arith)

  -- the two have different bits
  pub other-bit : bit c.column c.live ≡ 1 → bit_of c (a + 2 ^ c.live) ≡ (bit_of c a + 1) % 2
  other-bit e =
      let s : a + 2 ^ c.live ≡ bit_xor (2 ^ c.live) a = omega (arith, rw (one-mul (2 ^ c.live)) at (xor_shifted 1 c.live a h)) in
      ap (λ (x : ℕ). parity x c.column) s
      ∙ parity-xor (2 ^ c.live) a c.column
      ∙ ap (λ (d : ℕ). differ d (bit_of c a)) (parity-power c.live c.column ∙ e)
      ∙ differ-mod 1 (bit_of c a) (omega arith) (omega arith)
      ∙ ap (λ (n : ℕ). n % 2) (add_comm 1 (bit_of c a))
