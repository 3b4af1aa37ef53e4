-- The search over the rows of a plate, from the last to the first: what the loop knows, and what it has found.
use borrow.Author.Tests.{eq-eqb, ne_eqb}
use lib.Bits.{bit_xor}
use lib.Dec.{eqb}
use lib.ListN.{drop, get_or, length, length-drop, take}
use lib.Seq.{drop-cons, drop-length, take_all}
use mathlib.Core.Bool.{Bool, cond}
use mathlib.Core.List.{List, [], ◌∷◌}
use mathlib.Core.Path.{◌≡◌, ap, subst, sym, ◌∙◌}
use native.Mathlib.Omega.{arith}
use Prim.Native.Nat.{◌+◌, ◌-◌, ◌<◌, suc, zero, ℕ, ◌≤◌}
use Rattle.std.specs.Prelude.{None, Option, Some, min}
use Rattle.decoding.specs.Cosets.{taken_off}
use Rattle.words.specs.Reversed.{reversed}
use Rattle.outlines.specs.Searching.{first_out, left_of, or_word, read_from}
use Rattle.sheets.specs.declared.Order.{Order}
use Rattle.sheets.specs.declared.Order.TheVariants.{First, Last}

-- nothing was found from row j on
pub record NoneFrom (left : ℕ → ℕ) (rest : ℕ) (own : List ℕ) (j : ℕ) : Type 0 where
  pub within : j ≤ length own
  pub is : first_out left rest (drop j own) ≡ None

-- what is found in later rows is found
found-later : (left : ℕ → ℕ) (rest : ℕ) (own : List ℕ) (j w : ℕ) → first_out left rest (drop j own) ≡ Some w → first_out left rest own ≡ Some w
found-later left rest own zero w e = e
found-later left rest [] (suc j) w e = e
found-later left rest (x ∷ xs) (suc j) w e =
    ap (λ (f : Option ℕ). or_word f (left (bit_xor (taken_off xs x) rest)) (bit_xor (taken_off xs x) rest)) (found-later left rest xs j w e)

module _ (left : ℕ → ℕ) (rest : ℕ) (own : List ℕ) where
  -- nothing of the rest is left, or something is
  pub rest_in : left rest ≡ 0 → NoneFrom left rest own (length own)
  rest_in e = record {
    within = omega arith;
    is = ap (first_out left rest) (drop-length own) ∙ ap (λ (t : Bool). cond t None (Some rest)) (eq-eqb (left rest) 0 e);
  }

  pub rest_out : (left rest ≡ 0 → ⊥) → Some rest ≡ first_out left rest own
  rest_out h =
      sym (found-later left rest own (length own) rest
      (ap (first_out left rest) (drop-length own) ∙ ap (λ (t : Bool). cond t None (Some rest)) (ne_eqb (left rest) 0 h)))

  -- row j, where nothing was found behind it
  module _ (j : ℕ) (n : NoneFrom left rest own (suc j)) where
    abbrev pub word : ℕ
    word = bit_xor (taken_off (drop (suc j) own) (get_or own j 0)) rest

    here : first_out left rest (drop j own) ≡ cond (eqb (left word) 0) None (Some word)
    here =
        ap (first_out left rest) (drop-cons own j 0 n.within)
        ∙ ap (λ (f : Option ℕ). or_word f (left word) word) n.is

    pub row_in : left word ≡ 0 → NoneFrom left rest own j
    row_in e = record { within = omega (arith, n.within); is = here ∙ ap (λ (t : Bool). cond t None (Some word)) (eq-eqb (left word) 0 e) }

    pub row_out : (left word ≡ 0 → ⊥) → Some word ≡ first_out left rest own
    row_out h = sym (found-later left rest own j word (here ∙ ap (λ (t : Bool). cond t None (Some word)) (ne_eqb (left word) 0 h)))

  pub none_out : {j : ℕ} → NoneFrom left rest own j → (0 < j → ⊥) → None ≡ first_out left rest own
  none_out {j} n h = let e : j ≡ 0 = omega (arith, h) in sym (subst (λ (i : ℕ). first_out left rest (drop i own) ≡ None) e n.is)

-- ---- as the loop finds it

module _ (order : Order) (n : ℕ) (other : List ℕ) (mask rest : ℕ) (own : List ℕ) where
  -- the rest of the plate's mask
  pub rest-left : {l : ℕ} → l ≡ left_of order n other mask rest → (l ≡ 0 → ⊥) → Some rest ≡ first_out (left_of order n other mask) rest own
  rest-left e h = rest_out (left_of order n other mask) rest own (λ z. h (e ∙ z))

  pub loop-start : {l : ℕ} → l ≡ left_of order n other mask rest → l ≡ 0 → NoneFrom (left_of order n other mask) rest own (length own)
  loop-start e h = rest_in (left_of order n other mask) rest own (sym e ∙ h)

  module _ {j w l : ℕ} (none : NoneFrom (left_of order n other mask) rest own j) (some : 0 < j)
      (is : w ≡ bit_xor (taken_off (drop (j - 1 + 1) own) (get_or own (j - 1) 0)) rest) (e : l ≡ left_of order n other mask w) where
    before : NoneFrom (left_of order n other mask) rest own (suc (j - 1))
    before = let k : j ≡ suc (j - 1) = omega (arith, some) in subst (NoneFrom (left_of order n other mask) rest own) k none

    word_is : w ≡ word (left_of order n other mask) rest own (j - 1) before
    word_is = let k : j - 1 + 1 ≡ suc (j - 1) = omega (arith, some) in is ∙ ap (λ (i : ℕ). bit_xor (taken_off (drop i own) (get_or own (j - 1) 0)) rest) k

    pub row-left : (l ≡ 0 → ⊥) → Some w ≡ first_out (left_of order n other mask) rest own
    row-left h =
        ap Some word_is
        ∙ row_out (left_of order n other mask) rest own (j - 1) before (λ z. h (e ∙ ap (left_of order n other mask) word_is ∙ z))

    pub loop-on : l ≡ 0 → NoneFrom (left_of order n other mask) rest own (j - 1)
    loop-on h = row_in (left_of order n other mask) rest own (j - 1) before (ap (left_of order n other mask) (sym word_is) ∙ sym e ∙ h)

  pub row-there : {j : ℕ} → NoneFrom (left_of order n other mask) rest own j → 0 < j → j - 1 < length own
  row-there none some = omega (arith, none.within, some)

  pub loop-end : {j : ℕ} → NoneFrom (left_of order n other mask) rest own j → j ≤ 0 → None ≡ first_out (left_of order n other mask) rest own
  loop-end none h = none_out (left_of order n other mask) rest own none (λ z. omega (arith, z, h))

-- what is left of a word, by what it is as it is read
pub left_is : (order : Order) (n mask word : ℕ) (rows : List ℕ) {x r : ℕ} → x ≡ read_from order n word → r ≡ taken_off rows (bit_xor x mask)
    → r ≡ left_of order n rows mask word
unfolding left_of
left_is order n mask w rows e f = f ∙ ap (λ (y : ℕ). taken_off rows (bit_xor y mask)) e

-- a word as it is, or from the far end
pub read_first : (n word : ℕ) {order : Order} → order ≡ First → word ≡ read_from order n word
read_first n word e = rw e

pub read-last : (n word : ℕ) {order : Order} {r : ℕ} → n ≤ 64 → order ≡ Last → r ≡ reversed (min n 64) word → r ≡ read_from order n word
read-last n word h e f = let short : min n 64 ≡ n = omega arith in rw e (f ∙ ap (λ (k : ℕ). reversed k word) short)

-- row j without those behind it
pub row-alone : (rows : List ℕ) (j rest : ℕ) {r : ℕ} → r ≡ taken_off (take (length rows - (j + 1)) (drop (j + 1) rows)) (get_or rows j 0)
    → bit_xor r rest ≡ bit_xor (taken_off (drop (j + 1) rows) (get_or rows j 0)) rest
row-alone rows j rest e =
    let all = take_all (length rows - (j + 1)) (drop (j + 1) rows) (omega (arith, length-drop (j + 1) rows)) in
    ap (λ (x : ℕ). bit_xor x rest) (e ∙ ap (λ (later : List ℕ). taken_off later (get_or rows j 0)) all)
