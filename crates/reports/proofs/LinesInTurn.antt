-- Theorem: from what `open` replies, `next_line` again and again, in a line room of 256 bytes with 8,192 metrics and 4,096 decision words,
-- meets no room that is too short, and its lines in turn are the input's report. There is one where the input is refused, and else there are
-- three more than the sheet has block lines, or four more than it has heard lines. Whatever the rooms, so long as they are enough, these lines are the same.
use Rattle.std.proofs.Common.{◌≡◌, ℕ, suc, ◌+◌, List, [], ◌∷◌, ◌++◌, length, take, sym, refl, ap, ◌∙◌, subst, ap₂, arith, Result, Ok, Err, Option, Some, None}
use Rattle.plates.specs.declared.Refusal.{Refusal}
use Rattle.sheets.specs.Sheet.{reading}
use Rattle.reports.specs.declared.Report.{Report}
use Rattle.reports.specs.declared.Step.{Step}
use Rattle.reports.specs.Remaining.{Left, Ready, lines_left}
use Rattle.reports.specs.Report.{Reports}
use Rattle.reports.specs.Steps.{Lent, Opens, Steps}
use Rattle.reports.specs.Turns.{Enough, Turns}
use Rattle.reports.proofs.LineComes.{Comes, comes-determined}
use Rattle.reports.proofs.LineTurned.{Turned, gives, nothing, step-turned}
use Rattle.reports.proofs.OpenedReports.{open-ready, open-reports}
use Rattle.reports.proofs.StepDetermined.{open-determined}

-- ---- steps in turn

no_line : {A : Type 0} {o : Result (Option ℕ) Refusal} {size : ℕ} → o ≡ Ok None → o ≡ Ok (Some size) → A
no_line e f = let z : ◌≡◌ {A = ℕ} 0 1 = cc in absurd (omega arith)

same_size : {size other : ℕ} → ◌≡◌ {A = Result (Option ℕ) Refusal} (Ok (Some size)) (Ok (Some other)) → size ≡ other
same_size e = cc

-- what a turn that gave a line shows
record Shown (input : List ℕ) (report : Report) (line : List ℕ) (after : Report) : Type 0 where
  ready : Ready input after
  before : (lines : List (List ℕ)) → Left input after lines → Left input report (line ∷ lines)
  fewer : lines_left input report ≡ suc (lines_left input after)
  comes : Comes input report line after

module _ (input : List ℕ) where
  shown : (report : Report) (lent left : Lent) (step : Step) (size : ℕ) (line : List ℕ) → step.outcome ≡ Ok (Some size) → line ≡ take size left.room
      → Turned input report lent step left → Shown input report line step.next
  shown report lent left step size line e b (nothing o l z) = no_line o e
  shown report lent left step size line e b (gives k after g ready f z w c) =
      let s : size ≡ length k = same_size (sym e ∙ g.outcome) in
      let l : k ≡ line = g.bytes ∙ ap (λ (n : ℕ). take n left.room) (sym s) ∙ sym b in
      let n : after ≡ step.next = sym g.next in
      subst (λ (r : Report). Shown input report line r) n
      (subst (λ (x : List ℕ). Shown input report x after) l (record { ready = ready; before = f; fewer = z; comes = c }))

  -- lines taken in turn: the report come to is ready, and what is left of it was left after them
  record Came (report : Report) (lines : List (List ℕ)) (last : Report) : Type 0 where
    ready : Ready input last
    whole : Left input last [] → Left input report lines
    count : length lines + lines_left input last ≡ lines_left input report

  -- the first of them
  first-shown : (report : Report) (line : List ℕ) (lines : List (List ℕ)) (last : Report) → Ready input report → (t : Turns input report (line ∷ lines) last)
      → Shown input report line t.step.next
  first-shown report line lines last ready t =
      shown report t.lent t.left t.step t.size line t.outcome t.bytes
      (step-turned input report t.lent t.left t.step ready t.enough t.steps)

  came : (report : Report) (lines : List (List ℕ)) (last : Report) → Ready input report → Turns input report lines last → Came report lines last
  came report [] last ready e =
      subst (λ (r : Report). Came report [] r) (sym e) (record { ready = ready; whole = λ l. l; count = omega arith })
  came report (line ∷ lines) last ready t =
      let s = first-shown report line lines last ready t in
      let c = came t.step.next lines last s.ready t.next in
      record { ready = c.ready; whole = λ l. s.before lines (c.whole l); count = omega (arith, c.count, s.fewer) }

  -- as many lines taken twice, each call in rooms of its own, are the same lines and come to the same report
  turns_same : (report : Report) (a b : List (List ℕ)) (last other : Report) → Ready input report → length a ≡ length b → Turns input report a last
      → Turns input report b other → (a ≡ b) × (last ≡ other)
  turns_same report [] [] last other ready n t u = (refl, t ∙ sym u)
  turns_same report [] (l ∷ b) last other ready n t u = absurd (omega (arith, n))
  turns_same report (k ∷ a) [] last other ready n t u = absurd (omega (arith, n))
  turns_same report (k ∷ a) (l ∷ b) last other ready n t u =
      let s = first-shown report k a last ready t in
      let r = first-shown report l b other ready u in
      let c = comes-determined input report k l t.step.next u.step.next ready s.comes r.comes in
      let m : length a ≡ length b = omega (arith, n) in
      let d = turns_same u.step.next a b last other r.ready m (subst (λ (z : Report). Turns input z a last) c.1 t.next) u.next in
      (ap₂ (λ (x : List ℕ) (xs : List (List ℕ)). x ∷ xs) c.0 d.0, d.1)

  -- the lines before some others were taken in turn too
  pub turns-before : (report : Report) (lines more : List (List ℕ)) (last : Report) → Turns input report (lines ++ more) last
      → (here : Report) × Turns input report lines here
  turns-before report [] more last t = (report, refl)
  turns-before report (line ∷ lines) more last t =
      let r = turns-before t.step.next lines more last t.next in (
        r.0,
        record {
          lent = t.lent;
          enough = t.enough;
          step = t.step;
          left = t.left;
          steps = t.steps;
          size = t.size;
          outcome = t.outcome;
          bytes = t.bytes;
          next = r.1;
        },
      )

-- ---- from what `open` replies

-- whatever the rooms of each call, an input gives one list of so many lines
pub turns-determined : (input : List ℕ) (report other : Report) → Opens input report → Opens input other → (a b : List (List ℕ)) (last end : Report)
    → length a ≡ length b → Turns input report a last → Turns input other b end → a ≡ b
turns-determined input report other o p a b last end n t u =
    (turns_same input report a b last end (open-ready input (reading input) refl report o.is) n t
    (subst (λ (r : Report). Turns input r b end) (sym (open-determined input report other o p)) u)).0

-- an input, what `open` replies to it, lines taken in turn, and one call more
module _ (input : List ℕ) (report : Report) (opens : Opens input report) (lines : List (List ℕ)) (last : Report) (turns : Turns input report lines last)
    (lent left : Lent) (step : Step) (rooms : Enough lent) (steps : Steps last input lent step left) where
  reached : Came input report lines last
  reached = came input report lines last (open-ready input (reading input) refl report opens.is) turns

  next-turned : Turned input last lent step left
  next-turned = step-turned input last lent left step reached.ready rooms steps

  refused-never : (q : Refusal) → Turned input last lent step left → step.outcome ≡ Err q → ⊥
  refused-never q (nothing o l z) e = let z : ◌≡◌ {A = ℕ} 0 1 = cc in omega arith
  refused-never q (gives line after g ready f z w c) e = let o = g.outcome in let z : ◌≡◌ {A = ℕ} 0 1 = cc in omega arith

  -- no call is refused
  pub rooms-enough : (q : Refusal) → step.outcome ≡ Err q → ⊥
  rooms-enough q e = refused-never q next-turned e

  at-end : Turned input last lent step left → step.outcome ≡ Ok None → (Left input last []) × (lines_left input last ≡ 0)
  at-end (nothing o l z) e = (l, z)
  at-end (gives line after g ready f z w c) e = no_line e g.outcome

  -- where nothing is left, the lines in turn are the report
  pub lines-in-turn : step.outcome ≡ Ok None → Reports input lines
  lines-in-turn e = record { is = open-reports input (reading input) refl report lines opens.is (reached.whole (at-end next-turned e).0) }

  -- they are as many as were to come
  pub lines-counted : step.outcome ≡ Ok None → length lines ≡ lines_left input report
  lines-counted e = omega (arith, (at-end next-turned e).1, reached.count)

  -- and nothing is left after as many lines as were to come
  pub lines_end : length lines ≡ lines_left input report → step.outcome ≡ Ok None
  lines_end h = by next-turned
    where
      by : Turned input last lent step left → step.outcome ≡ Ok None
      by (nothing o l z) = o
      by (gives line after g ready f z w c) = absurd (omega (arith, h, z, reached.count))
