-- Demand 1 for a sheet: an input is refused exactly under its conditions in the paper's order, with the first that holds, and a refused input
-- changes nothing lent. A sheet cannot give number 3, nor 23.
use Rattle.std.proofs.Common.{Result, Ok, Err}
use Rattle.sheets.specs.declared.Sheet.{Sheet}
use lib.ListN.{length}
use mathlib.Core.Bool.{Bool, true}
use mathlib.Core.List.{List, [], ◌∷◌, ◌++◌}
use mathlib.Core.Logic.{inl, inr, ◌↔◌, ◌⊎◌}
use mathlib.Core.Path.{ap, refl, subst, sym, ◌∙◌, ◌≡◌}
use native.Mathlib.Omega.{arith}
use Prim.Native.Nat.{◌<◌, ℕ}
use Rattle.demands.proofs.Demand1.{its-number, prepare-refuses-exactly}
use Rattle.demands.proofs.LineRefusals.{apart, line-number, not-among}
use Rattle.demands.proofs.SheetConditions.{read-passes, refused-first, sheet-single}
use Rattle.demands.specs.Refusing.{RefusesExactly}
use Rattle.demands.specs.SheetRefusals.{Among, NumberedAmong, input_conditions, line_numbers, sheet_conditions, sheet_wide}
use Rattle.plates.proofs.Refusing.{Single, never_both, refuses-once}
use Rattle.plates.specs.Code.{InCode}
use Rattle.plates.specs.declared.Plate.{Plate}
use Rattle.plates.specs.declared.Prepared.{Prepared}
use Rattle.plates.specs.declared.Refusal.{Refusal}
use Rattle.plates.specs.declared.Refusal.TheVariants.{Length}
use Rattle.plates.specs.Prepare.{Prepares, RowOver, Wide, mask_beyond, prepare_conditions}
use Rattle.plates.specs.Refusals.{Passes, Refuses, number}
use Rattle.reports.specs.declared.Report.{Report}
use Rattle.reports.specs.declared.Stage.TheVariants as S
use Rattle.reports.specs.Listing.{LeavesAs, ListingLeaves, PreparedLeaves}
use Rattle.reports.specs.Remaining.{Rooms}
use Rattle.reports.specs.Report.{PreparedReports, Reports, ReportsAs, line_of_refusal}
use Rattle.reports.specs.Steps.{Opens, OpensAs, report_by}
use Rattle.sheets.proofs.Ranges.{InRange, accepted, sheet-in-range}
use Rattle.sheets.proofs.Replies.{sheet-not}
use Rattle.sheets.specs.declared.Order.{Order}
use Rattle.sheets.specs.Sheet.{Contents, Reading, ReadsSheet, reading, refused, says, sheet_reply, start_of}

-- ---- the numbers, in order

-- 15; form of the cover, 10 or 17 to 20; 1; the first other bad line, 10 or 17 to 20; 2; 4
pub input-numbers : (s : List ℕ) → NumberedAmong (input_conditions s) ((15 ∷ []) ∷ line_numbers ∷ (1 ∷ []) ∷ line_numbers ∷ (2 ∷ []) ∷ (4 ∷ []) ∷ [])
input-numbers s = (
  (λ q c. inl (its-number q c)),
  (
    (λ q c. line-number s q c.0),
    ((λ q c. inl (its-number q c)), ((λ q c. line-number s q c.0), ((λ q c. inl (its-number q c)), ((λ q c. inl (ap number c.is)), tt)))),
  ),
)

-- ---- more conditions behind some

-- refused by the first of them
refuses-more : (cs ds : List (Refusal → Type 0)) (q : Refusal) → Refuses cs q → Refuses (cs ++ ds) q
refuses-more [] ds q r = absurd r
refuses-more (c ∷ cs) ds q (inl x) = inl x
refuses-more (c ∷ cs) ds q (inr x) = inr (x.0, refuses-more cs ds q x.1)

same_first : (cs ds : List (Refusal → Type 0)) → Single cs → (p q : Refusal) → Refuses cs p → Refuses (cs ++ ds) q → p ≡ q
same_first [] ds s p q r t = absurd r
same_first (c ∷ cs) ds s p q (inl x) (inl y) = s.0 p q x y
same_first (c ∷ cs) ds s p q (inl x) (inr y) = absurd (y.0 p x)
same_first (c ∷ cs) ds s p q (inr x) (inl y) = absurd (x.0 q y)
same_first (c ∷ cs) ds s p q (inr x) (inr y) = same_first cs ds s.1 p q x.1 y.1

-- where they pass, by one behind them
passes_then : (cs ds : List (Refusal → Type 0)) (q : Refusal) → Passes cs → Refuses ds q → Refuses (cs ++ ds) q
passes_then [] ds q p r = r
passes_then (c ∷ cs) ds q p r = inr (p.0, passes_then cs ds q p.1 r)

only_then : (cs ds : List (Refusal → Type 0)) (q : Refusal) → Passes cs → Refuses (cs ++ ds) q → Refuses ds q
only_then [] ds q p r = r
only_then (c ∷ cs) ds q p (inl x) = absurd (p.0 q x)
only_then (c ∷ cs) ds q p (inr x) = only_then cs ds q p.1 x.1

-- ---- a sheet that is read: of the refusals of preparing only 4 is left

module _ (s : List ℕ) (c : Contents) (e : reading s ≡ says c) where
  range : InRange c
  range = sheet-in-range s c e

  -- 3: no row of a sheet has a one beyond its length
  pub row-never-over : (q : Refusal) → RowOver c.n c.rows q → ⊥
  row-never-over q o = omega (arith, o.over, range.below o.row o.there)

  -- 23: nor has its mask
  pub mask-never-over : (q : Refusal) → mask_beyond c.n c.mask q → ⊥
  mask-never-over q m = omega (arith, m.0, range.masked)

  wide-only : (q : Refusal) → Refuses (prepare_conditions c.n c.kind c.rows c.mask) q → Wide (InCode c.kind c.n c.rows) c.n q
  wide-only q (inl (inl h, f)) = absurd (omega (arith, h, range.least))
  wide-only q (inl (inr h, f)) = absurd (omega (arith, h, range.most))
  wide-only q (inr (n, inl h)) = absurd (omega (arith, h.0, range.few))
  wide-only q (inr (n, inr (m, inl h))) = absurd (row-never-over q h)
  wide-only q (inr (n, inr (m, inr (o, inl h)))) = absurd (mask-never-over q h)
  wide-only q (inr (n, inr (m, inr (o, inr (k, inl h))))) = h
  wide-only q (inr (n, inr (m, inr (o, inr (k, inr h))))) = absurd h.1

  wide-refuses : (q : Refusal) → Wide (InCode c.kind c.n c.rows) c.n q → Refuses (prepare_conditions c.n c.kind c.rows c.mask) q
  wide-refuses q h = inr (in-range, inr ((λ p x. omega (arith, x.0, range.few)), inr (row-never-over, inr (mask-never-over, inl h))))
    where
      in-range : (p : Refusal) → ((c.n ≡ 0) ⊎ (64 < c.n)) × (p ≡ Length) → ⊥
      in-range p (inl h, f) = omega (arith, h, range.least)
      in-range p (inr h, f) = omega (arith, h, range.most)

  -- so the sheet's matrix is refused exactly where its plate is too wide, which is the last condition
  module _ (r : Prepared) (p : Prepares c.n c.kind c.rows c.mask r) where
    wide_of : (q : Refusal) → r.verdict ≡ Err q → sheet_wide s q
    wide_of q h =
        subst (λ (d : Contents). Wide (InCode d.kind d.n d.rows) d.n q) (sym (accepted s c e).1)
        (wide-only q ((prepare-refuses-exactly c.n c.kind c.rows c.mask r p q).0 h))

    of-wide : (q : Refusal) → sheet_wide s q → r.verdict ≡ Err q
    of-wide q h =
        (prepare-refuses-exactly c.n c.kind c.rows c.mask r p q).1
        (wide-refuses q (subst (λ (d : Contents). Wide (InCode d.kind d.n d.rows) d.n q) (accepted s c e).1 h))

    the_one : (q : Refusal) → Refuses (sheet_wide s ∷ []) q → sheet_wide s q
    the_one q (inl x) = x
    the_one q (inr x) = absurd x.1

    exactly : RefusesExactly Err (input_conditions s) r.verdict
    exactly q = (
      (λ h. passes_then (sheet_conditions s) (sheet_wide s ∷ []) q (read-passes s c e) (inl (wide_of q h))),
      λ h. of-wide q (the_one q (only_then (sheet_conditions s) (sheet_wide s ∷ []) q (read-passes s c e) h)),
    )

-- ---- reading a sheet

module _ (s table : List ℕ) (r : Result Sheet Refusal) (table' : List ℕ) (p : ReadsSheet s table r table') where
  -- refused exactly under 15; form of the cover; 1; the first other bad line; 2
  pub read-sheet-refuses-exactly : RefusesExactly Err (sheet_conditions s) r
  read-sheet-refuses-exactly q = ((λ e. refused-first s q (sheet-not p q e).is), λ h. p.reply ∙ by (reading s) refl h)
    where
      by : (found : Reading) → reading s ≡ found → Refuses (sheet_conditions s) q → sheet_reply s found ≡ Err q
      by (says c) e h = absurd (never_both (sheet_conditions s) (read-passes s c e) q h)
      by (refused o) e h = ap Err (refuses-once (sheet_conditions s) (sheet-single s) o q (refused-first s o e) h)

  -- and then the table is as it was
  pub read-sheet-refused-unchanged : (q : Refusal) → r ≡ Err q → table' ≡ table
  read-sheet-refused-unchanged q e = (sheet-not p q e).rows

-- ---- the whole input

-- what is refused of an input: the sheet, or its matrix
abbrev RefusedAs : Reading → Refusal → Type 0
RefusedAs (refused p) q = p ≡ q
RefusedAs (says c) q = (r : Prepared) → Prepares c.n c.kind c.rows c.mask r → r.verdict ≡ Err q

module _ (s : List ℕ) where
  refused_as : (q : Refusal) → Refuses (input_conditions s) q → (found : Reading) → reading s ≡ found → RefusedAs found q
  refused_as q h (refused p) e = same_first (sheet_conditions s) (sheet_wide s ∷ []) (sheet-single s) p q (refused-first s p e) h
  refused_as q h (says c) e = λ r p. (exactly s c e r p q).1 h

  -- the stage of a report that was just opened
  stage-refused : (v : Result (Unit {0}) Refusal) (report : Report) (plate : Plate) (order : Order) (at : ℕ) (heard : Bool) (blocks : ℕ)
      → report ≡ report_by v plate order at heard blocks → (q : Refusal) → (report.stage ≡ S.Refused q) ↔ (v ≡ Err q)
  stage-refused (Err p) report plate order at heard blocks x q =
      let y : report.stage ≡ S.Refused p = ap (λ (r : Report). r.stage) x in
      ((λ h. let z : p ≡ q = cc in ap Err z), λ h. let z : p ≡ q = cc in y ∙ ap S.Refused z)
  stage-refused (Ok _) report plate order at heard blocks x q =
      let y : report.stage ≡ S.PlateLine = ap (λ (r : Report). r.stage) x in
      ((λ h. let z : ◌≡◌ {A = ℕ} 0 1 = cc in absurd (omega arith)), λ h. let z : ◌≡◌ {A = ℕ} 0 1 = cc in absurd (omega arith))

  -- an input is refused exactly under 15; form of the cover; 1; the first other bad line; 2; 4
  pub input-refuses-exactly : (report : Report) → Opens s report → RefusesExactly S.Refused (input_conditions s) report.stage
  input-refuses-exactly report o = by (reading s) refl o.is
    where
      by : (found : Reading) → reading s ≡ found → OpensAs s found report → RefusesExactly S.Refused (input_conditions s) report.stage
      by (refused p) e x q =
          let y : report.stage ≡ S.Refused p = ap (λ (r : Report). r.stage) x in (
            (λ h. let z : p ≡ q = cc in subst (Refuses (input_conditions s)) z (refuses-more (sheet_conditions s) (sheet_wide s ∷ []) p (refused-first s p e))),
            λ h. y ∙ ap S.Refused (refused_as q h (refused p) e),
          )
      by (says c) e x q =
          let t = stage-refused x.prepared.verdict report x.prepared.plate c.order (start_of s c) c.heard (length c.blocks) x.is q in
          let v = exactly s c e x.prepared x.prepares q in
          ((λ h. v.0 (t.0 h)), λ h. t.1 (v.1 h))

  -- where none of them holds the listing begins with the plate's line
  pub input-passed-listed : (report : Report) → Opens s report → Passes (input_conditions s) → report.stage ≡ S.PlateLine
  input-passed-listed report o h = by (reading s) refl o.is
    where
      accepts : (v : Result (Unit {0}) Refusal) → RefusesExactly Err (input_conditions s) v → v ≡ Ok tt
      accepts (Ok _) x = refl
      accepts (Err q) x = absurd (never_both (input_conditions s) h q ((x q).0 refl))

      by : (found : Reading) → reading s ≡ found → OpensAs s found report → report.stage ≡ S.PlateLine
      by (refused p) e x = absurd (never_both (input_conditions s) h p (refuses-more (sheet_conditions s) (sheet_wide s ∷ []) p (refused-first s p e)))
      by (says c) e x =
          let v = accepts x.prepared.verdict (exactly s c e x.prepared x.prepares) in
          ap (λ (r : Report). r.stage) x.is
          ∙ ap (λ (w : Result (Unit {0}) Refusal). (report_by w x.prepared.plate c.order (start_of s c) c.heard (length c.blocks)).stage) v

  -- where it is refused it prints one line, its refusal, and nothing more
  pub input-refused-prints : (q : Refusal) → Refuses (input_conditions s) q → (lines : List (List ℕ)) → Reports s lines → lines ≡ line_of_refusal q ∷ []
  input-refused-prints q h lines r = by (reading s) (refused_as q h (reading s) refl) r.is
    where
      by : (found : Reading) → RefusedAs found q → ReportsAs found lines → lines ≡ line_of_refusal q ∷ []
      by (refused p) e x = x ∙ ap (λ (o : Refusal). line_of_refusal o ∷ []) e
      by (says c) e x = subst (λ (v : Result (Unit {0}) Refusal). PreparedReports v x.prepared.plate c lines) (e x.prepared x.prepares) x.is

  -- and leaves the working rooms as they were
  pub input-refused-unchanged : (q : Refusal) → Refuses (input_conditions s) q → (before after : Rooms) → ListingLeaves s before after → after ≡ before
  input-refused-unchanged q h before after l = by (reading s) (refused_as q h (reading s) refl) l.is
    where
      by : (found : Reading) → RefusedAs found q → LeavesAs found before after → after ≡ before
      by (refused p) e x = x
      by (says c) e x = subst (λ (v : Result (Unit {0}) Refusal). PreparedLeaves v x.prepared.plate c.blocks before after) (e x.prepared x.prepares) x.is

  -- ---- number 3 cannot come from a sheet

  among-them : (q : Refusal) → Refuses (input_conditions s) q → Among (number q) (15 ∷ 1 ∷ 2 ∷ 4 ∷ line_numbers)
  among-them q (inl c) = inl (its-number q c)
  among-them q (inr (a, inl c)) = inr (inr (inr (inr (line-number s q c.0))))
  among-them q (inr (a, inr (b, inl c))) = inr (inl (its-number q c))
  among-them q (inr (a, inr (b, inr (d, inl c)))) = inr (inr (inr (inr (line-number s q c.0))))
  among-them q (inr (a, inr (b, inr (d, inr (f, inl c))))) = inr (inr (inl (its-number q c)))
  among-them q (inr (a, inr (b, inr (d, inr (f, inr (g, inl c)))))) = inr (inr (inr (inl (ap number c.is))))
  among-them q (inr (a, inr (b, inr (d, inr (f, inr (g, inr c)))))) = absurd c.1

  -- nor any number but 15, 1, 2, 4, 10 and 17 to 20
  pub sheet-gives-never : (report : Report) → Opens s report → (q : Refusal) → report.stage ≡ S.Refused q → (i : ℕ) → number q ≡ i
      → apart i (15 ∷ 1 ∷ 2 ∷ 4 ∷ line_numbers) ≡ true → ⊥
  sheet-gives-never report o q e i h t =
      not-among i (15 ∷ 1 ∷ 2 ∷ 4 ∷ line_numbers) t
      (subst (λ (j : ℕ). Among j (15 ∷ 1 ∷ 2 ∷ 4 ∷ line_numbers)) h (among-them q ((input-refuses-exactly report o q).0 e)))

  pub three-never : (report : Report) → Opens s report → (q : Refusal) → report.stage ≡ S.Refused q → number q ≡ 3 → ⊥
  three-never report o q e h = sheet-gives-never report o q e 3 h refl
