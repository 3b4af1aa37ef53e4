-- A sheet that is refused for a bad line is refused with its first fault, and one that is read has no fault.
use Rattle.std.proofs.Common.{Result, Ok, Err}
use Prim.Native.Nat.{ℕ, suc}
use lib.Dec.{eqb, ltb}
use lib.ListN.{length, drop}
use mathlib.Core.Bool.{Bool, true, false, cond}
use mathlib.Core.List.{List, [], ◌∷◌}
use mathlib.Core.Path.{◌≡◌, refl, ap}
use native.Mathlib.Omega.{arith}
use Rattle.plates.specs.Refusals.{place}
use Rattle.plates.specs.declared.Refusal.{Refusal}
use Rattle.plates.specs.declared.Refusal.TheVariants.{InputTooLong, Length, TooManyRows}
use Rattle.sheets.specs.declared.cover.Cover.{Cover}
use Rattle.sheets.specs.declared.line.Fault.{Fault}
use Rattle.sheets.specs.Text.{fields, lines}
use Rattle.sheets.specs.Covers.{cover_of}
use Rattle.sheets.specs.Sheet.{Contents, refusal_of, contents_of, contents, cover_front, cover_in, cover_bad, line_bad, input_too_long, length_bad, rows_too_many, first_refusal, verdict, says, refused, reading_by, reading}
use Rattle.sheets.specs.Faults.{on_cover, on_mask, after, WrongAt, RefusedFor, too_long, fault, bad_length, many_rows}
use Rattle.sheets.proofs.CoverFaults.{CoverJudged, cover-judged}
use Rattle.sheets.proofs.FirstFaults.{LinesJudged, first-here, on, open-here}
use Rattle.sheets.proofs.MaskFaults.{body-judged}

-- what the lines of a sheet are by their cover: its fault is the first, or line 1 has none and the others are judged
abbrev ByCover : List (List ℕ) → Result Cover Fault → Type 0
ByCover ls (Err bad) = LinesJudged 0 on_cover ls 1 (Err (refusal_of 1 bad))
ByCover ls (Ok cover) =
    ((m b : ℕ) → WrongAt cover.n on_cover ls 1 m b → ⊥) × LinesJudged cover.n on_cover ls 1 (line_bad (contents_of cover (drop 1 ls)) (drop 1 ls))

-- it is so
by-cover : (ls : List (List ℕ)) → ByCover ls (cover_front ls)
by-cover [] = open-here 0 on_cover [] 1 (refl, refl) (λ m b w. w)
by-cover (l ∷ []) = open-here 0 on_cover (l ∷ []) 1 (refl, refl) (λ m b w. w)
by-cover (l ∷ m ∷ ms) = go (cover_of (fields l)) (λ n. cover-judged n (fields l))
  where
    go : (line : Result Cover Fault) → ((n : ℕ) → CoverJudged n (fields l) line) → ByCover (l ∷ m ∷ ms) line
    go (Err bad) h = first-here 0 on_cover l m ms 1 bad (h 0)
    go (Ok cover) h =
        let j = h cover.n in
        (j.0, on cover.n on_cover on_mask l m ms 1 (line_bad (contents_of cover (m ∷ ms)) (m ∷ ms)) j.0 (ap after j.1) (body-judged cover (m ∷ ms)))

-- ---- the first of the verdicts that refuses

-- a condition that refuses
refuses-with : (t : Bool) (p q : Refusal) → cond t (Err p) (Ok (tt {0})) ≡ Err q → q ≡ p
refuses-with true p q e = cc
refuses-with false p q e = let z : ◌≡◌ {A = ℕ} 0 1 = cc in absurd (omega arith)

-- the range of n
length-refuses : (n : ℕ) (q : Refusal) → length_bad n ≡ Err q → q ≡ Length
length-refuses n q = by (eqb n 0)
  where
    by : (t : Bool) → cond t (Err Length) (cond (ltb 64 n) (Err Length) (Ok (tt {0}))) ≡ Err q → q ≡ Length
    by true e = cc
    by false e = refuses-with (ltb 64 n) Length q e

module _ (s : List ℕ) (n : ℕ) where
  -- the first fault, from line 1
  told : (q : Refusal) → LinesJudged n on_cover (lines s) 1 (Err q) → RefusedFor s n q
  told q h = let e : place q ≡ suc h.0 = omega (arith, h.1) in fault (rw e h.2)

  -- by the verdicts after the cover's
  past-cover : ((m b : ℕ) → WrongAt n on_cover (lines s) 1 m b → ⊥) → (range line : Result (Unit {0}) Refusal) → LinesJudged n on_cover (lines s) 1 line → (rows : ℕ) (q : Refusal)
      → ((p : Refusal) → range ≡ Err p → p ≡ Length) → first_refusal (range ∷ line ∷ rows_too_many rows ∷ []) ≡ Err q → RefusedFor s n q
  past-cover right (Err p) line h rows q r e = let z : Err p ≡ Err q = e in bad_length (r q z) right
  past-cover right (Ok _) (Err p) h rows q r e = let z : p ≡ q = cc in told q (rw z at h)
  past-cover right (Ok _) (Ok _) h rows q r e = many_rows (by (ltb 64 rows) e) h
    where
      by : (t : Bool) → first_refusal (cond t (Err TooManyRows) (Ok (tt {0})) ∷ []) ≡ Err q → q ≡ TooManyRows
      by true g = cc
      by false g = let z : ◌≡◌ {A = ℕ} 0 1 = cc in absurd (omega arith)

-- by the verdicts of the definition
by-verdicts : (s : List ℕ) (cover : Result Cover Fault) → ByCover (lines s) cover → (long : Result (Unit {0}) Refusal) → ((p : Refusal) → long ≡ Err p → p ≡ InputTooLong)
    → (q : Refusal) → let c = contents_of (cover_in cover) (drop 1 (lines s)) in
    first_refusal (long ∷ cover_bad cover ∷ length_bad c.n ∷ line_bad c (drop 1 (lines s)) ∷ rows_too_many (length c.rows) ∷ []) ≡ Err q
    → RefusedFor s c.n q
by-verdicts s cover h (Err p) l q e = let z : Err p ≡ Err q = e in too_long (l q z)
by-verdicts s (Err bad) h (Ok _) l q e = let z : refusal_of 1 bad ≡ q = cc in told s 0 q (rw z at h)
by-verdicts s (Ok cover) h (Ok _) l q e =
    let c = contents_of cover (drop 1 (lines s)) in
    past-cover s cover.n h.0 (length_bad cover.n) (line_bad c (drop 1 (lines s))) h.1 (length c.rows) q (length-refuses cover.n) e

-- ---- the theorems

-- an input is refused with its first fault, in its place among the other refusals
pub refused-for : (s : List ℕ) (q : Refusal) → reading s ≡ refused q → RefusedFor s (contents s).n q
unfolding verdict contents
refused-for s q e = by-verdicts s (cover_front (lines s)) (by-cover (lines s)) (input_too_long s) (refuses-with (ltb 32768 (length s)) InputTooLong) q (by (verdict s) e)
  where
    by : (v : Result (Unit {0}) Refusal) → reading_by v (contents s) ≡ refused q → v ≡ Err q
    by (Ok _) g = let z : ◌≡◌ {A = ℕ} 0 1 = cc in absurd (omega arith)
    by (Err p) g = cc

-- a sheet that is read has no fault
pub no-fault : (s : List ℕ) (c : Contents) → reading s ≡ says c → (line i at : ℕ) → WrongAt (contents s).n on_cover (lines s) line i at → ⊥
unfolding verdict contents
no-fault s c e = passed (cover_front (lines s)) (by-cover (lines s)) (input_too_long s) (length_bad (contents s).n) (by (verdict s) e)
  where
    by : (v : Result (Unit {0}) Refusal) → reading_by v (contents s) ≡ says c → v ≡ Ok tt
    by (Ok _) g = refl
    by (Err p) g = let z : ◌≡◌ {A = ℕ} 0 1 = cc in absurd (omega arith)

    -- no verdict refuses, so the one on the lines does not
    lines-pass : (n : ℕ) (line rows : Result (Unit {0}) Refusal) → LinesJudged n on_cover (lines s) 1 line → first_refusal (line ∷ rows ∷ []) ≡ Ok tt
        → (k i b : ℕ) → WrongAt n on_cover (lines s) k i b → ⊥
    lines-pass n (Ok _) rows h g = h
    lines-pass n (Err p) rows h g = let z : ◌≡◌ {A = ℕ} 0 1 = cc in absurd (omega arith)

    passed : (cover : Result Cover Fault) → ByCover (lines s) cover → (long range : Result (Unit {0}) Refusal) → let d = contents_of (cover_in cover) (drop 1 (lines s)) in
        first_refusal (long ∷ cover_bad cover ∷ range ∷ line_bad d (drop 1 (lines s)) ∷ rows_too_many (length d.rows) ∷ []) ≡ Ok tt
        → (k i b : ℕ) → WrongAt d.n on_cover (lines s) k i b → ⊥
    passed (Ok cover) h (Ok _) (Ok _) g =
        let d = contents_of cover (drop 1 (lines s)) in
        lines-pass cover.n (line_bad d (drop 1 (lines s))) (rows_too_many (length d.rows)) h.1 g
    passed (Ok cover) h (Ok _) (Err p) g = let z : ◌≡◌ {A = ℕ} 0 1 = cc in absurd (omega arith)
    passed (Ok cover) h (Err p) range g = let z : ◌≡◌ {A = ℕ} 0 1 = cc in absurd (omega arith)
    passed (Err bad) h (Ok _) range g = let z : ◌≡◌ {A = ℕ} 0 1 = cc in absurd (omega arith)
    passed (Err bad) h (Err p) range g = let z : ◌≡◌ {A = ℕ} 0 1 = cc in absurd (omega arith)
