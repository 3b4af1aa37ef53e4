-- Reading a sheet goes by the conditions in the paper's order: it is refused with the first that holds, and read where none does.
use Rattle.std.proofs.Common.{Option, Some, None, Result, Ok, Err}
use borrow.Author.Tests.{eqb-false, eqb-true, ltb-false, ltb-true}
use lib.Dec.{eqb, ltb}
use lib.ListN.{drop, length}
use mathlib.Core.Bool.{Bool, cond, false, true}
use mathlib.Core.List.{List, [], ◌∷◌}
use mathlib.Core.Logic.{inl, inr, ◌⊎◌}
use mathlib.Core.Path.{ap, refl, subst, sym, ◌∙◌, ◌≡◌}
use native.Mathlib.Omega.{arith}
use Prim.Native.Nat.{◌+◌, ◌<◌, ◌≤◌, ℕ}
use Rattle.demands.proofs.LineRefusals.{line-number, not-among, one-fault}
use Rattle.demands.specs.SheetRefusals.{Among, cover_fault, first_fault, line_fault, line_numbers, sheet_conditions}
use Rattle.plates.proofs.Refusing.{Single}
use Rattle.plates.specs.declared.Refusal.{Refusal}
use Rattle.plates.specs.declared.Refusal.TheVariants.{InputTooLong, Length, TooManyRows}
use Rattle.plates.specs.Prepare.{bad_length, too_many_rows}
use Rattle.plates.specs.Refusals.{Passes, Refuses, field, number, place}
use Rattle.sheets.specs.declared.cover.Cover.{Cover}
use Rattle.sheets.proofs.Ranges.{accepted, all_pass}
use Rattle.sheets.proofs.Replies.{number-of-line}
use Rattle.sheets.proofs.SheetFaults.{no-fault, refused-for}
use Rattle.sheets.specs.declared.body.Ending.{Ending}
use Rattle.sheets.specs.declared.body.Ending.TheVariants as E
use Rattle.sheets.specs.declared.line.Fault.{Fault}
use Rattle.sheets.specs.declared.line.Fault.TheVariants as F
use Rattle.sheets.specs.Faults as T
use Rattle.sheets.specs.Faults.{RefusedFor, WrongAt, on_cover}
use Rattle.sheets.specs.Masks.{mask_front}
use Rattle.sheets.specs.Sheet.{Contents, bad_by, contents, cover_bad, cover_front, ending_after, first_refusal, input_too_long, length_bad, line_bad, line_verdict}
use Rattle.sheets.specs.Sheet.{reading, reading_by, refusal_of, refused, rows_too_many, says, verdict}
use Rattle.sheets.specs.Text.{lines}

-- ---- verdicts

no-verdict : {A : Type 0} {q : Refusal} → Ok (tt {0}) ≡ Err q → A
no-verdict e = let z : ◌≡◌ {A = ℕ} 0 1 = cc in absurd (omega arith)

no-refusal : {A : Type 0} {q : Refusal} → Err q ≡ Ok (tt {0}) → A
no-refusal e = let z : ◌≡◌ {A = ℕ} 0 1 = cc in absurd (omega arith)

same-refusal : {p q : Refusal} → ◌≡◌ {A = Result (Unit {0}) Refusal} (Err p) (Err q) → q ≡ p
same-refusal e = cc

-- a bound that refuses, and one that does not
over : (m k : ℕ) (p q : Refusal) → cond (ltb m k) (Err p) (Ok (tt {0})) ≡ Err q → (m < k) × (q ≡ p)
over m k p q e = by (ltb m k) refl e
  where
    by : (t : Bool) → ltb m k ≡ t → cond t (Err p) (Ok (tt {0})) ≡ Err q → (m < k) × (q ≡ p)
    by true t e = (ltb-true m k t, same-refusal e)
    by false t e = no-verdict e

within : (m k : ℕ) (p : Refusal) → cond (ltb m k) (Err p) (Ok (tt {0})) ≡ Ok tt → k ≤ m
within m k p e = by (ltb m k) refl e
  where
    by : (t : Bool) → ltb m k ≡ t → cond t (Err p) (Ok (tt {0})) ≡ Ok tt → k ≤ m
    by true t e = no-refusal e
    by false t e = ltb-false m k t

-- the range of n
range-refuses : (n : ℕ) (q : Refusal) → length_bad n ≡ Err q → bad_length n q
range-refuses n q e = by (eqb n 0) refl e
  where
    by : (t : Bool) → eqb n 0 ≡ t → cond t (Err Length) (cond (ltb 64 n) (Err Length) (Ok (tt {0}))) ≡ Err q → bad_length n q
    by true t e = (inl (eqb-true n 0 t), same-refusal e)
    by false t e = let o = over 64 n Length q e in (inr o.0, o.1)

range-passes : (n : ℕ) → length_bad n ≡ Ok tt → (q : Refusal) → bad_length n q → ⊥
range-passes n e q b = by (eqb n 0) refl e b.0
  where
    by : (t : Bool) → eqb n 0 ≡ t → cond t (Err Length) (cond (ltb 64 n) (Err Length) (Ok (tt {0}))) ≡ Ok tt → (n ≡ 0) ⊎ (64 < n) → ⊥
    by true t e h = no-refusal e
    by false t e (inl h) = eqb-false n 0 t h
    by false t e (inr h) = omega (arith, h, within 64 n Length e)

-- ---- the line and the number of a bad line

record OfLine (q : Refusal) : Type 0 where
  other : 1 < place q
  numbered : Among (number q) line_numbers

fault-numbered : (line : ℕ) (f : Fault) → Among (number (refusal_of line f)) line_numbers
fault-numbered line F.Missing = inl refl
fault-numbered line F.Turn = inr (inl refl)
fault-numbered line (F.Count at) = inr (inr (inl refl))
fault-numbered line (F.Value at) = inr (inr (inr (inl refl)))
fault-numbered line (F.Row at) = inr (inr (inr (inr (inl refl))))

of-line : (line : ℕ) (f : Fault) (q : Refusal) → 1 < line → ◌≡◌ {A = Result (Unit {0}) Refusal} (Err (refusal_of line f)) (Err q) → OfLine q
of-line line f q h e =
    subst OfLine (sym (same-refusal e)) (record { other = omega (arith, h, (number-of-line line f).1); numbered = fault-numbered line f })

ending-line : (line : ℕ) (e : Ending) (q : Refusal) → 1 < line → line_verdict line e ≡ Err q → OfLine q
ending-line line E.Fine q h x = no-verdict x
ending-line line (E.NoEnd f) q h x = of-line line f q h x
ending-line line (E.After f) q h x = of-line (line + 1) f q (omega (arith, h)) x

bad-cover : (f : Fault) (q : Refusal) → ◌≡◌ {A = Result (Unit {0}) Refusal} (Err (refusal_of 1 f)) (Err q) → Among (number q) line_numbers × (place q ≡ 1)
bad-cover f q e = subst (λ (p : Refusal). Among (number p) line_numbers × (place p ≡ 1)) (sym (same-refusal e)) (fault-numbered 1 f, (number-of-line 1 f).1)

bad-line : (found : Result (Option ℕ) Fault) (c : Contents) (ls : List (List ℕ)) (q : Refusal) → bad_by found c ls ≡ Err q → OfLine q
bad-line (Ok (Some w)) c ls q x = ending-line (3 + length c.rows + length c.blocks) (ending_after c (drop 1 ls)) q (omega arith) x
bad-line (Ok None) c ls q x = ending-line (2 + length c.rows + length c.blocks) (ending_after c ls) q (omega arith) x
bad-line (Err f) c ls q x = of-line 2 f q (omega arith) x

-- ---- refused

module _ (s : List ℕ) where
  -- with the number of a line's fault, it is the first fault
  is-fault : (q : Refusal) → Among (number q) line_numbers → RefusedFor s (contents s).n q → first_fault s q
  is-fault q a (T.too_long e) = absurd (not-among 15 line_numbers refl (subst (λ (i : ℕ). Among i line_numbers) (ap number e) a))
  is-fault q a (T.fault f) = f
  is-fault q a (T.bad_length e r) = absurd (not-among 1 line_numbers refl (subst (λ (i : ℕ). Among i line_numbers) (ap number e) a))
  is-fault q a (T.many_rows e r) = absurd (not-among 2 line_numbers refl (subst (λ (i : ℕ). Among i line_numbers) (ap number e) a))

  -- with 1, the cover has no fault
  cover-right : (q : Refusal) → number q ≡ 1 → RefusedFor s (contents s).n q → (p : Refusal) → cover_fault s p → ⊥
  cover-right q h (T.too_long e) p x = let g : number q ≡ 15 = ap number e in omega (arith, h, g)
  cover-right q h (T.fault f) p x = not-among 1 line_numbers refl (subst (λ (i : ℕ). Among i line_numbers) h (line-number s q f))
  cover-right q h (T.bad_length e r) p x =
      r (number p) (field p) (subst (λ (k : ℕ). WrongAt (contents s).n on_cover (lines s) k (number p) (field p)) x.1 x.0.is)
  cover-right q h (T.many_rows e r) p x = let g : number q ≡ 2 = ap number e in omega (arith, h, g)

  -- with 2, no line has one
  lines-right : (q : Refusal) → number q ≡ 2 → RefusedFor s (contents s).n q → (p : Refusal) → first_fault s p → ⊥
  lines-right q h (T.too_long e) p x = let g : number q ≡ 15 = ap number e in omega (arith, h, g)
  lines-right q h (T.fault f) p x = not-among 2 line_numbers refl (subst (λ (i : ℕ). Among i line_numbers) h (line-number s q f))
  lines-right q h (T.bad_length e r) p x = let g : number q ≡ 1 = ap number e in omega (arith, h, g)
  lines-right q h (T.many_rows e r) p x = r (place p) (number p) (field p) x.is

  -- another line's fault is none of the cover's
  no_cover : (p q : Refusal) → first_fault s q → 1 < place q → cover_fault s p → ⊥
  no_cover p q f h x = let e : place p ≡ place q = ap place (one-fault s p q x.0 f) in omega (arith, e, h, x.1)

  module _ (q : Refusal) (why : RefusedFor s (contents s).n q) where
    past-range : (line : Result (Unit {0}) Refusal) → line_bad (contents s) (drop 1 (lines s)) ≡ line → (rows : Result (Unit {0}) Refusal) → rows_too_many (length (contents s).rows) ≡ rows
        → first_refusal (line ∷ rows ∷ []) ≡ Err q
        → ((p : Refusal) → cover_fault s p → ⊥) × Refuses (line_fault s ∷ too_many_rows (contents s).rows ∷ []) q
    past-range (Err p) e rows f x =
        let o = bad-line (mask_front (contents s).n (contents s).order (drop 1 (lines s))) (contents s) (drop 1 (lines s)) q (e ∙ x) in
        let g = is-fault q o.numbered why in
        ((λ p y. no_cover p q g o.other y), inl (g, o.other))
    past-range (Ok _) e (Err p) f x =
        let t = over 64 (length (contents s).rows) TooManyRows q (f ∙ x) in
        let none = lines-right q (ap number t.1) why in
        ((λ p y. none p y.0), inr ((λ p y. none p y.0), inl t))
    past-range (Ok _) e (Ok _) f x = no-verdict x

    -- the verdicts after the cover's
    abbrev after_cover : List (Result (Unit {0}) Refusal)
    after_cover = length_bad (contents s).n ∷ line_bad (contents s) (drop 1 (lines s)) ∷ rows_too_many (length (contents s).rows) ∷ []

    past-cover : (range : Result (Unit {0}) Refusal) → length_bad (contents s).n ≡ range
        → first_refusal (range ∷ line_bad (contents s) (drop 1 (lines s)) ∷ rows_too_many (length (contents s).rows) ∷ []) ≡ Err q
        → ((p : Refusal) → cover_fault s p → ⊥) × Refuses (bad_length (contents s).n ∷ line_fault s ∷ too_many_rows (contents s).rows ∷ []) q
    past-cover (Err p) e x = let b = range-refuses (contents s).n q (e ∙ x) in (cover-right q (ap number b.1) why, inl b)
    past-cover (Ok _) e x = let r = past-range _ refl _ refl x in (r.0, inr (range-passes (contents s).n e, r.1))

    by-verdicts : (long : Result (Unit {0}) Refusal) → input_too_long s ≡ long → (cover : Result Cover Fault)
        → first_refusal (long ∷ cover_bad cover ∷ after_cover) ≡ Err q → Refuses (sheet_conditions s) q
    by-verdicts (Err p) e cover x = inl (over 32768 (length s) InputTooLong q (e ∙ x))
    by-verdicts (Ok _) e (Err f) x =
        let o = bad-cover f q x in
        inr ((λ p y. omega (arith, y.0, within 32768 (length s) InputTooLong e)), inl (is-fault q o.0 why, o.1))
    by-verdicts (Ok _) e (Ok cover) x =
        inr ((λ p y. omega (arith, y.0, within 32768 (length s) InputTooLong e)), inr (past-cover _ refl x))

  -- a sheet is refused with the first condition that holds
  pub refused-first : (q : Refusal) → reading s ≡ refused q → Refuses (sheet_conditions s) q
  unfolding verdict
  refused-first q e = by-verdicts q (refused-for s q e) (input_too_long s) refl (cover_front (lines s)) (by (verdict s) e)
    where
      by : (v : Result (Unit {0}) Refusal) → reading_by v (contents s) ≡ refused q → v ≡ Err q
      by (Ok _) g = let z : ◌≡◌ {A = ℕ} 0 1 = cc in absurd (omega arith)
      by (Err p) g = cc

  -- where it is read none holds
  pub read-passes : (c : Contents) → reading s ≡ says c → Passes (sheet_conditions s)
  read-passes c e =
      let a = all_pass s (accepted s c e).0 in
      let none : (p : Refusal) → first_fault s p → ⊥ = λ p x. no-fault s c e (place p) (number p) (field p) x.is in (
        (λ p y. omega (arith, y.0, within 32768 (length s) InputTooLong a.short)),
        (
          (λ p y. none p y.0),
          (
            range-passes (contents s).n a.range,
            ((λ p y. none p y.0), ((λ p y. omega (arith, y.0, within 64 (length (contents s).rows) TooManyRows a.few)), tt)),
          ),
        ),
      )

  alike : {A : Type 0} {r : Refusal} (p q : Refusal) → A × (p ≡ r) → A × (q ≡ r) → p ≡ q
  alike p q x y = x.1 ∙ sym y.1

  -- each condition gives one refusal
  pub sheet-single : Single (sheet_conditions s)
  sheet-single = (alike, ((λ p q x y. one-fault s p q x.0 y.0), (alike, ((λ p q x y. one-fault s p q x.0 y.0), (alike, tt)))))
