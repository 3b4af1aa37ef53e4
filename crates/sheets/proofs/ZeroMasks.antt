-- A sheet with no mask line has the mask 0, and a mask line of zeros changes nothing that the sheet says.
use Rattle.plates.specs.declared.Refusal.{Refusal}
use Rattle.std.proofs.Common.{Option, Some, None, Result, Ok, Err}
use Prim.Native.Nat.{ℕ, zero, suc, ◌+◌, ◌≤◌}
use borrow.Author.Tests.{eq-eqb, le-leb, le-ltb}
use lib.Dec.{eqb, ltb}
use lib.ListN.{length, drop}
use mathlib.Core.Bool.{Bool, true, false, cond}
use mathlib.Core.List.{List, [], ◌∷◌, ◌++◌, reverse, reverse-cons}
use mathlib.Core.Path.{◌≡◌, refl, sym, ◌∙◌, ap, ap₂, subst}
use native.Mathlib.Omega.{arith}
use Rattle.plates.specs.Refusals.{field, number, place}
use Rattle.plates.specs.declared.Refusal.TheVariants.{Length, TooManyRows}
use Rattle.sheets.specs.Text.{fields, line_feed, lines, parts}
use Rattle.sheets.specs.Rows.{bits_only, row_of, word_from}
use Rattle.sheets.specs.Turning.{in_order}
use Rattle.sheets.specs.Masks.{mask_front, mask_in, mask_is, mask_of, masks_in}
use Rattle.sheets.specs.Lines.{row_is}
use Rattle.sheets.specs.Sheet.{Contents, cover_front, cover_in, contents, contents_with, masks_of, says, reading_by, reading}
use Rattle.sheets.specs.Sheet.{cover_bad, ending_after, first_refusal, length_bad, line_bad, line_verdict, refusal_of, rows_too_many, verdict}
use Rattle.sheets.specs.Turned.{joined_by}
use Rattle.sheets.specs.ZeroMasks.{zeros, zero_mask, ZeroMasked, moved, AlikeButLine}
use Rattle.sheets.specs.declared.Order.{Order}
use Rattle.sheets.specs.declared.Order.TheVariants.{First, Last}
use Rattle.sheets.specs.declared.cover.Cover.{Cover}
use Rattle.sheets.specs.declared.line.Fault.{Fault}
use Rattle.sheets.specs.declared.body.Ending.{Ending}
use Rattle.sheets.specs.declared.body.Ending.TheVariants.{Fine, NoEnd, After}
use Rattle.sheets.proofs.Ranges.{accepted}
use Rattle.sheets.proofs.Replies.{number-of-line}
use Rattle.sheets.proofs.TurnedText.{AllFree, Free, joined-parts, parts_free}

-- ---- no mask line

none_is : (found : Result (Option ℕ) Fault) → masks_in found ≡ 0 → found ≡ Ok None
none_is (Ok (Some w)) e = absurd (omega arith)
none_is (Ok None) e = refl
none_is (Err fault) e = absurd (omega arith)

-- a sheet with no mask line has the mask 0
pub no-mask-is-zero : (s : List ℕ) (c : Contents) → reading s ≡ says c → masks_of s c ≡ 0 → c.mask ≡ 0
unfolding contents
no-mask-is-zero s c e h =
    let a = accepted s c e in
    let q = sym a.1 in
    rw q (ap mask_in (none_is (mask_front (contents s).n (contents s).order (drop 1 (lines s))) (rw q at h)))

-- ---- a mask line of zeros

zeros-part : (n : ℕ) → parts 9 (zeros n) ≡ zeros n ∷ []
zeros-part zero = refl
zeros-part (suc n) = rw (zeros-part n)

zeros-length : (n : ℕ) → length (zeros n) ≡ n
zeros-length zero = refl
zeros-length (suc n) = ap suc (zeros-length n)

zeros-bits : (n : ℕ) → bits_only (zeros n) ≡ true
zeros-bits zero = refl
zeros-bits (suc n) = zeros-bits n

zeros-more : (n : ℕ) → zeros n ++ 48 ∷ [] ≡ 48 ∷ zeros n
zeros-more zero = refl
zeros-more (suc n) = ap (λ (xs : List ℕ). 48 ∷ xs) (zeros-more n)

zeros-turned : (n : ℕ) → reverse (zeros n) ≡ zeros n
zeros-turned zero = refl
zeros-turned (suc n) = reverse-cons 48 (zeros n) ∙ ap (λ (xs : List ℕ). xs ++ 48 ∷ []) (zeros-turned n) ∙ zeros-more n

zeros-word : (n : ℕ) → word_from (zeros n) ≡ 0
zeros-word zero = refl
zeros-word (suc n) = rw (zeros-word n)

zeros-either : (n : ℕ) (order : Order) → word_from (in_order order (zeros n)) ≡ 0
zeros-either n First = zeros-word n
zeros-either n Last = ap word_from (zeros-turned n) ∙ zeros-word n

zeros-row : (n : ℕ) (order : Order) → row_of n order (zeros n) ≡ Some 0
zeros-row n order = rw (eq-eqb (length (zeros n)) n (zeros-length n), zeros-bits n, zeros-either n order)

-- its mask is 0
zero_is : (n : ℕ) (order : Order) → mask_of n order (fields (zero_mask n)) ≡ Ok (Some 0)
zero_is n order = rw (zeros-part n) (ap (λ (r : Option ℕ). mask_is (row_is r)) (zeros-row n order))

-- ---- refusals, but for the line

abbrev VerdictsAlike : Result (Unit {0}) Refusal → Result (Unit {0}) Refusal → Type 0
VerdictsAlike (Ok _) (Ok _) = Unit {0}
VerdictsAlike (Ok _) (Err p) = ⊥
VerdictsAlike (Err q) (Ok _) = ⊥
VerdictsAlike (Err q) (Err p) = (number p ≡ number q) × (field p ≡ field q) × (place p ≡ moved (place q))

firsts-alike : (v w : Result (Unit {0}) Refusal) (vs ws : List (Result (Unit {0}) Refusal)) → VerdictsAlike v w → VerdictsAlike (first_refusal vs) (first_refusal ws)
    → VerdictsAlike (first_refusal (v ∷ vs)) (first_refusal (w ∷ ws))
firsts-alike (Ok _) (Ok _) vs ws h k = k
firsts-alike (Ok _) (Err p) vs ws h k = absurd h
firsts-alike (Err q) (Ok _) vs ws h k = absurd h
firsts-alike (Err q) (Err p) vs ws h k = h

readings-alike : (v w : Result (Unit {0}) Refusal) (c : Contents) → VerdictsAlike v w → AlikeButLine (reading_by v c) (reading_by w c)
readings-alike (Ok _) (Ok _) c h = refl
readings-alike (Ok _) (Err p) c h = absurd h
readings-alike (Err q) (Ok _) c h = absurd h
readings-alike (Err q) (Err p) c h = h

-- of the cover
cover-alike : (found : Result Cover Fault) → VerdictsAlike (cover_bad found) (cover_bad found)
cover-alike (Ok cover) = tt
cover-alike (Err fault) = let e = number-of-line 1 fault in (refl, refl, rw e.1)

-- of n, and for too many rows
cond-alike : (t : Bool) (v : Result (Unit {0}) Refusal) → VerdictsAlike v v → VerdictsAlike (cond t (Err Length) v) (cond t (Err Length) v)
cond-alike true v h = (refl, refl, refl)
cond-alike false v h = h

length-alike : (n : ℕ) → VerdictsAlike (length_bad n) (length_bad n)
length-alike n = cond-alike (eqb n 0) (cond (ltb 64 n) (Err Length) (Ok tt)) (cond-alike (ltb 64 n) (Ok tt) tt)

rows_alike : (k : ℕ) → VerdictsAlike (first_refusal (rows_too_many k ∷ [])) (first_refusal (rows_too_many k ∷ []))
rows_alike k = by (ltb 64 k)
  where
    by : (t : Bool) → VerdictsAlike (first_refusal (cond t (Err TooManyRows) (Ok tt) ∷ [])) (first_refusal (cond t (Err TooManyRows) (Ok tt) ∷ []))
    by true = (refl, refl, refl)
    by false = tt

-- of a line, which is one later
line-alike : (line next : ℕ) → 2 ≤ line → next ≡ suc line → (fault : Fault) → VerdictsAlike (Err (refusal_of line fault)) (Err (refusal_of next fault))
line-alike line next h k fault =
    let e = number-of-line line fault in
    let g = number-of-line next fault in
    (g.0 ∙ sym e.0, g.2 ∙ sym e.2, rw (e.1, le-leb 2 line h) (g.1 ∙ k))

lines-alike : (line next : ℕ) → 2 ≤ line → next ≡ suc line → (d : Ending) → VerdictsAlike (line_verdict line d) (line_verdict next d)
lines-alike line next h k Fine = tt
lines-alike line next h k (NoEnd fault) = line-alike line next h k fault
lines-alike line next h k (After fault) = line-alike (line + 1) (next + 1) (omega arith) (omega arith) fault

-- ---- the sheets

module _ (s t : List ℕ) (z : ZeroMasked s t) where
  abbrev c : Contents
  c = contents s

  abbrev ls : List (List ℕ)
  ls = z.next ∷ z.others

  found_none : mask_front c.n c.order ls ≡ Ok None
  found_none = none_is (mask_front c.n c.order ls) (rw z.without at z.none)

  found-zero : mask_front c.n c.order (zero_mask c.n ∷ ls) ≡ Ok (Some 0)
  found-zero = zero_is c.n c.order

  abbrev cover : Cover
  cover = cover_in (cover_front (z.cover ∷ ls))

  length_is : c.n ≡ cover.n
  unfolding contents
  length_is = rw z.without

  order_is : c.order ≡ cover.order
  unfolding contents
  order_is = rw z.without

  -- what they say, by what is found after the cover
  abbrev said_by : List (List ℕ) → Result (Option ℕ) Fault → Contents
  said_by ms found = contents_with cover (mask_in found) (drop (masks_in found) ms)

  said : contents s ≡ contents_with cover 0 ls
  unfolding contents
  said = rw z.without (ap (said_by ls) (ap₂ (λ (n : ℕ) (o : Order). mask_front n o ls) (sym length_is) (sym order_is) ∙ found_none))

  said-masked : contents t ≡ contents_with cover 0 ls
  unfolding contents
  said-masked =
      let ms = zero_mask c.n ∷ ls in
      rw z.masked (ap (said_by ms) (ap₂ (λ (n : ℕ) (o : Order). mask_front n o ms) (sym length_is) (sym order_is) ∙ found-zero))

  same-contents : contents t ≡ contents s
  same-contents = said-masked ∙ sym said

  body_alike : VerdictsAlike (line_bad c ls) (line_bad c (zero_mask c.n ∷ ls))
  body_alike =
      let r = length c.rows in
      let b = length c.blocks in
      rw (found_none, found-zero) (lines-alike (2 + r + b) (3 + r + b) (omega arith) (omega arith) (ending_after c ls))

  verdicts-alike : length s ≤ 32768 → length t ≤ 32768 → VerdictsAlike (verdict s) (verdict t)
  unfolding verdict
  verdicts-alike h k =
      let first = cover_front (z.cover ∷ ls) in
      let more = rows_too_many (length c.rows) ∷ [] in
      let old = line_bad c ls in
      let new = line_bad c (zero_mask c.n ∷ ls) in
      rw (le-ltb 32768 (length s) h, le-ltb 32768 (length t) k, same-contents, z.without, z.masked)
      (firsts-alike (cover_bad first) (cover_bad first) (length_bad c.n ∷ old ∷ more) (length_bad c.n ∷ new ∷ more) (cover-alike first)
      (firsts-alike (length_bad c.n) (length_bad c.n) (old ∷ more) (new ∷ more) (length-alike c.n)
      (firsts-alike old new more more body_alike (rows_alike (length c.rows)))))

  -- a mask line of zeros gives what the sheet gave without it
  pub zero-mask : length s ≤ 32768 → length t ≤ 32768 → AlikeButLine (reading s) (reading t)
  zero-mask h k = rw same-contents (readings-alike (verdict s) (verdict t) c (verdicts-alike h k))

-- ---- there is such a sheet

zeros-free : (n : ℕ) → Free line_feed (zeros n)
zeros-free zero = tt
zeros-free (suc n) = (refl, zeros-free n)

mask-free : (n : ℕ) → Free line_feed (zero_mask n)
mask-free n = (refl, (refl, (refl, (refl, (refl, zeros-free n)))))

-- every sheet with no mask line whose cover is ended has one with a mask line of zeros
pub zero-masked : (s cover next : List ℕ) (others : List (List ℕ)) → lines s ≡ cover ∷ next ∷ others → masks_of s (contents s) ≡ 0
    → ZeroMasked s (joined_by line_feed (cover ∷ zero_mask (contents s).n ∷ next ∷ others))
zero-masked s cover next others e none =
    let n = (contents s).n in
    let free : AllFree line_feed (cover ∷ next ∷ others) = subst (AllFree line_feed) e (parts_free line_feed s) in
    record {
      cover = cover;
      next = next;
      others = others;
      without = e;
      masked = joined-parts line_feed (cover ∷ zero_mask n ∷ next ∷ others) (λ q. some q) (free.0, (mask-free n, free.1));
      none = none;
    }
  where
    some : cover ∷ zero_mask (contents s).n ∷ next ∷ others ≡ [] → ⊥
    some q = let z : ◌≡◌ {A = ℕ} 0 1 = cc in omega arith
