-- Lists judged one by one, and their words put into a table.
use borrow.Author.Tests.{le-leb, lt-leb}
use lib.Dec.{eqb}
use lib.ListN.{drop, get_or, length, length-set, set, take}
use mathlib.Core.Bool.{false, true}
use mathlib.Core.List.{List, [], ◌∷◌}
use mathlib.Core.Path.{◌≡◌, refl, sym, ◌∙◌}
use native.Mathlib.Numerals.{add-one}
use native.Mathlib.Omega.{arith}
use Prim.Native.Nat.{◌+◌, ◌-◌, ◌<◌, suc, ℕ, ◌≤◌}
use Rattle.alists.proofs.Places.{done, here, tail_all}
use Rattle.alists.specs.Lines.{faulty, line_of, reads}
use Rattle.alists.specs.Lists.{column}
use Rattle.alists.specs.Reading.{Lists, faulty_at, list_at, listed, lists, lists_from, ones_of, onto, shows, unlisted, word, word_of, wrong, zeros_only}
use Rattle.std.proofs.Common.{Err, Ok}
use Rattle.alists.specs.Working.{Laid, laid_from}

-- ---- one list

module _ (size weight : ℕ) (xs : List ℕ) where
  pub word-short : length xs < weight → word_of size weight xs ≡ wrong
  word-short h = rw (lt-leb weight (length xs) h)

  pub word-unpadded : weight ≤ length xs → zeros_only (take (length xs - weight) (drop weight xs)) ≡ false → word_of size weight xs ≡ wrong
  word-unpadded h e = let z = rw (tail_all xs weight) at e in rw (le-leb weight (length xs) h, z)

  pub word-padded : weight ≤ length xs → zeros_only (take (length xs - weight) (drop weight xs)) ≡ true
      → word_of size weight xs ≡ ones_of size 0 (take weight xs)
  word-padded h e = let z = rw (tail_all xs weight) at e in rw (le-leb weight (length xs) h, z)

-- the columns are known
pub shows-known : (seen : List ℕ) (i w : ℕ) → 0 < length seen → shows seen i w ≡ eqb w (column seen i)
shows-known [] i w h = absurd (omega arith)
shows-known (c ∷ cs) i w h = refl

-- ---- the words of lists

laid-onto : (table : List ℕ) (i w : ℕ) (l : Lists) → laid_from table i (onto w l) ≡ laid_from (set table i w) (suc i) l
laid-onto table i w (lists ws s) = refl
laid-onto table i w (faulty_at j) = refl

-- from list i on, at a place, the lists are put as the whole
pub record Laying (most size : ℕ) (seen weights text : List ℕ) (at i : ℕ) (table : List ℕ) (whole : Laid) (size₀ : ℕ) : Type 0 where
  pub high : i ≤ length weights
  pub place : at ≤ length text
  pub sized : length table ≡ size₀
  pub stands : laid_from table i (lists_from most size seen i (drop i weights) (drop at text)) ≡ whole

pub laying-start : (most size : ℕ) (seen weights text : List ℕ) (at : ℕ) (table : List ℕ) → at ≤ length text
    → Laying most size seen weights text at 0 table (laid_from table 0 (lists_from most size seen 0 weights (drop at text))) (length table)
laying-start most size seen weights text at table p = record { high = omega arith; place = p; sized = refl; stands = refl }

module _ {most size : ℕ} {seen weights text : List ℕ} {at i : ℕ} {table : List ℕ} {whole : Laid} {size₀ : ℕ} (h : i < length weights)
    (l : Laying most size seen weights text at i table whole size₀) where
  -- one list more
  pub laying-on : (w next : ℕ) → list_at most size (get_or weights i 0) (drop at text) ≡ listed w (drop next text) → next ≤ length text → shows seen i w ≡ true
      → Laying most size seen weights text next (i + 1) (set table i w) whole size₀
  laying-on w next e p t =
      let d = here weights i h in
      let rest = lists_from most size seen (suc i) (drop (suc i) weights) (drop next text) in
      record {
        high = omega arith;
        place = p;
        sized = length-set table i w ∙ l.sized;
        stands = rw add-one (sym (laid-onto table i w rest) ∙ rw (d, e, t, add-one) at l.stands);
      }

  -- a list that does not show the columns
  pub laying-hidden : (w next : ℕ) → list_at most size (get_or weights i 0) (drop at text) ≡ listed w (drop next text) → shows seen i w ≡ false
      → whole ≡ Err i
  laying-hidden w next e t = sym l.stands ∙ rw (here weights i h, e, t)

  -- a faulty one
  pub laying-bad : list_at most size (get_or weights i 0) (drop at text) ≡ unlisted → whole ≡ Err i
  laying-bad e = sym l.stands ∙ rw (here weights i h, e)

pub laying-end : {most size : ℕ} {seen weights text : List ℕ} {at i : ℕ} {table : List ℕ} {whole : Laid} {size₀ : ℕ} → length weights ≤ i
    → Laying most size seen weights text at i table whole size₀ → whole ≡ Ok (table, drop at text)
laying-end {weights = weights} {i = i} h l = sym l.stands ∙ rw (done weights i h)

-- ---- the list at a place

module _ (most size weight : ℕ) (s : List ℕ) where
  pub list-bad : line_of most s ≡ faulty → list_at most size weight s ≡ unlisted
  list-bad e = rw e

  pub list-wrong : (xs t : List ℕ) → line_of most s ≡ reads xs t → word_of size weight xs ≡ wrong → list_at most size weight s ≡ unlisted
  list-wrong xs t e w = rw (e, w)

  pub list-good : (xs t : List ℕ) (u : ℕ) → line_of most s ≡ reads xs t → word_of size weight xs ≡ word u → list_at most size weight s ≡ listed u t
  list-good xs t u e w = rw (e, w)
