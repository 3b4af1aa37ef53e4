-- The text of a turned sheet: its lines and fields are those of the sheet, turned.
use Prim.Native.Nat.{ℕ}
use borrow.Author.Tests.{eq-eqb}
use lib.Dec.{eqb}
use mathlib.Core.Bool.{Bool, true, false, cond}
use mathlib.Core.List.{List, [], ◌∷◌, ◌++◌, reverse, reverse-cons}
use mathlib.Core.Path.{◌≡◌, refl, sym, subst, ◌∙◌, ap}
use native.Mathlib.Omega.{arith}
use Rattle.sheets.specs.Text.{tab, line_feed, onto, parts, fields, lines}
use Rattle.sheets.specs.Words.{same, first, last, word_of}
use Rattle.sheets.specs.Turned.{joined_by, cover_turned, rest_turned, fields_turned, lines_turned, text_turned, LinesTurned, IsTurned}
use Rattle.sheets.specs.declared.word.Word.{Word}
use Rattle.sheets.specs.declared.word.Word.TheVariants as W
use Rattle.sheets.proofs.TurnedLines.{some-part}

-- ---- texts without b

abbrev pub Free : ℕ → List ℕ → Type 0
Free b [] = Unit {0}
Free b (x ∷ xs) = (eqb x b ≡ false) × Free b xs

abbrev pub AllFree : ℕ → List (List ℕ) → Type 0
AllFree b [] = Unit {0}
AllFree b (p ∷ ps) = Free b p × AllFree b ps

module _ (b : ℕ) where
  free-append : (xs ys : List ℕ) → Free b xs → Free b ys → Free b (xs ++ ys)
  free-append [] ys h k = k
  free-append (x ∷ xs) ys h k = (h.0, free-append xs ys h.1 k)

  free-reverse : (xs : List ℕ) → Free b xs → Free b (reverse xs)
  free-reverse [] h = tt
  free-reverse (x ∷ xs) h = subst (Free b) (sym (reverse-cons x xs)) (free-append (reverse xs) (x ∷ []) (free-reverse xs h.1) (h.0, tt))

  all_append : (ps qs : List (List ℕ)) → AllFree b ps → AllFree b qs → AllFree b (ps ++ qs)
  all_append [] qs h k = k
  all_append (p ∷ ps) qs h k = (h.0, all_append ps qs h.1 k)

  all-reverse : (ps : List (List ℕ)) → AllFree b ps → AllFree b (reverse ps)
  all-reverse [] h = tt
  all-reverse (p ∷ ps) h = subst (AllFree b) (sym (reverse-cons p ps)) (all_append (reverse ps) (p ∷ []) (all-reverse ps h.1) (h.0, tt))

  onto-free : (x : ℕ) (ps : List (List ℕ)) → eqb x b ≡ false → AllFree b ps → AllFree b (onto x ps)
  onto-free x [] e h = ((e, tt), tt)
  onto-free x (p ∷ ps) e h = ((e, h.0), h.1)

  -- ---- parts and what is joined of them

  parts-case : (x : ℕ) (ps : List (List ℕ)) → AllFree b ps → (t : Bool) → eqb x b ≡ t → AllFree b (cond t ([] ∷ ps) (onto x ps))
  parts-case x ps h true e = (tt, h)
  parts-case x ps h false e = onto-free x ps e h

  pub parts_free : (s : List ℕ) → AllFree b (parts b s)
  parts_free [] = (tt, tt)
  parts_free (x ∷ xs) = parts-case x (parts b xs) (parts_free xs) (eqb x b) refl

  part-one : (p : List ℕ) → Free b p → parts b p ≡ p ∷ []
  part-one [] h = refl
  part-one (x ∷ xs) h = rw (h.0, part-one xs h.1)

  part-more : (p s : List ℕ) → Free b p → parts b (p ++ b ∷ s) ≡ p ∷ parts b s
  part-more [] s h = rw (eq-eqb b b refl)
  part-more (x ∷ xs) s h = rw (h.0, part-more xs s h.1)

  parts-joined : (p : List ℕ) (ps : List (List ℕ)) → AllFree b (p ∷ ps) → parts b (joined_by b (p ∷ ps)) ≡ p ∷ ps
  parts-joined p [] h = part-one p h.0
  parts-joined p (q ∷ ps) h = part-more p (joined_by b (q ∷ ps)) h.0 ∙ ap (λ (rest : List (List ℕ)). p ∷ rest) (parts-joined q ps h.1)

  pub joined-parts : (ps : List (List ℕ)) → (ps ≡ [] → ⊥) → AllFree b ps → parts b (joined_by b ps) ≡ ps
  joined-parts [] n h = absurd (n refl)
  joined-parts (p ∷ ps) n h = parts-joined p ps h

  -- ---- the fields of a turned line

  module _ (no-first : Free b first) (no_last : Free b last) where
    word-free : (h : List ℕ) (t u : Bool) → Free b h → Free b (cond t last (cond u first h))
    word-free h true u k = no_last
    word-free h false true k = no-first
    word-free h false false k = k

    cover-free : (fs : List (List ℕ)) → AllFree b fs → AllFree b (cover_turned fs)
    cover-free [] k = k
    cover-free (f ∷ []) k = k
    cover-free (f ∷ g ∷ []) k = k
    cover-free (f ∷ g ∷ h ∷ fs) k = (k.0, (k.1.0, (word-free h (same h first) (same h last) k.1.1.0, k.1.1.1)))

    rest-free : (w : Word) (fs : List (List ℕ)) → AllFree b fs → AllFree b (rest_turned w fs)
    rest-free W.Cover fs k = cover-free fs k
    rest-free W.Mask [] k = k
    rest-free W.Mask (f ∷ fs) k = (free-reverse f k.0, k.1)
    rest-free W.Row [] k = k
    rest-free W.Row (f ∷ fs) k = (free-reverse f k.0, k.1)
    rest-free W.Block fs k = all-reverse fs k
    rest-free W.Heard [] k = k
    rest-free W.Heard (f ∷ fs) k = (k.0, all-reverse fs k.1)
    rest-free W.End fs k = k
    rest-free W.Other fs k = k

    fields_free : (fs : List (List ℕ)) → AllFree b fs → AllFree b (fields_turned fs)
    fields_free [] k = k
    fields_free (w ∷ fs) k = (k.0, rest-free (word_of w) fs k.1)

-- parts by another byte keep what a text is without
keep-case : (c x : ℕ) (ps : List (List ℕ)) → eqb x c ≡ false → AllFree c ps → (t : Bool) → AllFree c (cond t ([] ∷ ps) (onto x ps))
keep-case c x ps e h true = (tt, h)
keep-case c x ps e h false = onto-free c x ps e h

parts-keep : (b c : ℕ) (s : List ℕ) → Free c s → AllFree c (parts b s)
parts-keep b c [] h = (tt, tt)
parts-keep b c (x ∷ xs) h = keep-case c x (parts b xs) h.0 (parts-keep b c xs h.1) (eqb x b)

joined_free : (b c : ℕ) → eqb b c ≡ false → (ps : List (List ℕ)) → AllFree c ps → Free c (joined_by b ps)
joined_free b c e [] h = tt
joined_free b c e (p ∷ []) h = h.0
joined_free b c e (p ∷ q ∷ ps) h = free-append c p (b ∷ joined_by b (q ∷ ps)) h.0 (e, joined_free b c e (q ∷ ps) h.1)

abbrev line_turned : List ℕ → List ℕ
line_turned l = joined_by tab (fields_turned (fields l))

some-turned : (fs : List (List ℕ)) → (fs ≡ [] → ⊥) → fields_turned fs ≡ [] → ⊥
some-turned [] n e = n refl
some-turned (w ∷ fs) n e = let z : ◌≡◌ {A = ℕ} 0 1 = cc in omega arith

fields-there : (l : List ℕ) → fields (line_turned l) ≡ fields_turned (fields l)
fields-there l =
    joined-parts tab (fields_turned (fields l)) (some-turned (fields l) (some-part tab l))
    (fields_free tab (refl, (refl, (refl, (refl, (refl, tt))))) (refl, (refl, (refl, (refl, tt)))) (fields l) (parts_free tab l))

line-free : (l : List ℕ) → Free line_feed l → Free line_feed (line_turned l)
line-free l h =
    joined_free tab line_feed refl (fields_turned (fields l))
    (fields_free line_feed (refl, (refl, (refl, (refl, (refl, tt))))) (refl, (refl, (refl, (refl, tt)))) (fields l) (parts-keep tab line_feed l h))

-- ---- the lines of the turned text

lines-free : (ls : List (List ℕ)) → AllFree line_feed ls → AllFree line_feed (lines_turned ls)
lines-free [] h = tt
lines-free (l ∷ ls) h = (line-free l h.0, lines-free ls h.1)

lines-there : (ls : List (List ℕ)) → LinesTurned ls (lines_turned ls)
lines-there [] = tt
lines-there (l ∷ ls) = (fields-there l, lines-there ls)

some-lines : (ls : List (List ℕ)) → (ls ≡ [] → ⊥) → lines_turned ls ≡ [] → ⊥
some-lines [] n e = n refl
some-lines (l ∷ ls) n e = let z : ◌≡◌ {A = ℕ} 0 1 = cc in omega arith

-- every text has its turned text
pub text-turned : (s : List ℕ) → IsTurned s (text_turned s)
text-turned s = record {
  turned = subst (LinesTurned (lines s))
      (sym (joined-parts line_feed (lines_turned (lines s)) (some-lines (lines s) (some-part line_feed s)) (lines-free (lines s) (parts_free line_feed s))))
      (lines-there (lines s));
}
