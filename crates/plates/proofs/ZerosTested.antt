-- The ones of a list from a place on, all in one word: it is 0 exactly if each of them is.
use borrow.Author.Count.{below_more}
use lib.Bits.{bit_or, or_lt}
use lib.Dec.{eqb}
use lib.ListN.{get_or-eq_default, get_or, length}
use mathlib.Core.List.{List}
use mathlib.Core.Path.{◌≡◌, refl}
use native.Mathlib.Decide.{dec_lt}
use native.Mathlib.Nat.{le_refl}
use native.Mathlib.Omega.{arith}
use Prim.Native.Nat.{◌+◌, ◌<◌, ℕ, ◌≤◌}
use Rattle.plates.proofs.Deciding.{alike, equal}
use Rattle.plates.specs.Tested.{Decides, ZeroFrom}
use Rattle.words.proofs.Masks.{or-least}

-- the word of the places from `from` to i - 1
pub record OnesTo (from i : ℕ) (list : List ℕ) (ones : ℕ) : Type 0 where
  pub begun : from ≤ i
  pub zeros : ones ≡ 0 → (j : ℕ) → from ≤ j → j < i → get_or list j 0 ≡ 0
  pub zero : ZeroFrom from list → ones ≡ 0

pub ones_none : (from : ℕ) (list : List ℕ) → OnesTo from from list 0
ones_none from list = record { begun = le_refl from; zeros = λ e j h l. absurd (omega arith); zero = λ z. refl }

module _ (from i : ℕ) (list : List ℕ) (ones : ℕ) (o : OnesTo from i list ones) where
  pub ones-more : OnesTo from (i + 1) list (bit_or ones (get_or list i 0))
  ones-more = record {
    begun = omega (arith, o.begun);
    zeros = λ e j h l. below_more (λ x. from ≤ x → get_or list x 0 ≡ 0) i (λ x m k. o.zeros (before e) x k m) (λ k. here e) j l h;
    zero = λ z. omega (arith, or_lt 0 ones (get_or list i 0) (omega (arith, o.zero z)) (omega (arith, z.zeros i o.begun)));
  }
    where
      before : bit_or ones (get_or list i 0) ≡ 0 → ones ≡ 0
      before e = omega (arith, e, (or-least ones (get_or list i 0)).0)

      here : bit_or ones (get_or list i 0) ≡ 0 → get_or list i 0 ≡ 0
      here e = omega (arith, e, (or-least ones (get_or list i 0)).1)

  pub ones-all : length list ≤ i → Decides (ZeroFrom from list) (eqb ones 0)
  ones-all h = alike (λ e. record { zeros = λ j k. side e j k (dec_lt j i) }) o.zero (equal ones 0)
    where
      side : ones ≡ 0 → (j : ℕ) → from ≤ j → Dec (j < i) → get_or list j 0 ≡ 0
      side e j k (yes b) = o.zeros e j k b
      side e j k (no b) = get_or-eq_default list 0 (omega arith)
