-- A listing line after line: each is written behind those before it, and after the last the whole report stands in the room.
use Rattle.std.proofs.Common.{◌≡◌, ℕ, suc, ◌+◌, ◌-◌, ◌*◌, ◌<◌, ◌≤◌, List, [], ◌∷◌, ◌++◌, length, take, drop, sym, refl, ap, ◌∙◌, subst, ap₂, append_assoc, append-nil, arith, length-append, length-drop, drop_of_length-le, take_all, drop-drop, take_at, drop_at, Ok, Some, Result, Option}
use Rattle.plates.specs.declared.Refusal.{Refusal}
use Rattle.reports.specs.declared.listing.Progress.{Progress}
use Rattle.reports.specs.declared.Report.{Report}
use Rattle.reports.specs.declared.Stage.{Stage}
use Rattle.reports.specs.declared.Stage.TheVariants as S
use Rattle.reports.specs.declared.Step.{Step}
use Rattle.reports.specs.Listing.{BeforeLine, BeforeLines, LineAdded, LinesAdded, bytes_of}
use Rattle.reports.specs.Remaining.{Leaves, LeavesAt, Left, LeftAt, Ready, Rooms, blocks_at, count_at, lines_left}
use Rattle.reports.specs.Report.{joined}
use Rattle.reports.specs.Steps.{Lent, Steps, lends}
use Rattle.reports.specs.Turns.{Enough}
use Rattle.reports.proofs.LineTurned.{Turned, gives, nothing, step-turned}

-- ---- one line

-- k bytes from the size on, which is all that is behind it, are lent on to the step
module _ (input : List ℕ) (p : Progress) (lent left : Rooms) (listing room' : List ℕ) (k : ℕ) (step : Step) (b : BeforeLine input p lent listing)
    (all : k ≡ length listing - p.size)
    (x : Steps p.report input (lends lent.metrics lent.decisions (take k (drop p.size listing))) step (lends left.metrics left.decisions room')) where
  abbrev behind : List ℕ
  behind = drop p.size listing

  behind-whole : take k (drop p.size listing) ≡ drop p.size listing
  behind-whole = take_all k (drop p.size listing) (omega (arith, length-drop p.size listing, all))

  nothing-more : drop k (drop p.size listing) ≡ []
  nothing-more = drop_of_length-le (drop p.size listing) {i = k} (omega (arith, length-drop p.size listing, all))

  abbrev lent-part : Lent
  lent-part = lends lent.metrics lent.decisions (take k (drop p.size listing))

  enough : Enough lent-part
  enough = record {
    room = omega (arith, b.room, ap length behind-whole, length-drop p.size listing);
    metrics = b.metrics;
    decisions = b.decisions;
  }

  -- what the step gave
  turned : Turned input p.report lent-part step (lends left.metrics left.decisions room')
  turned = step-turned input p.report lent-part (lends left.metrics left.decisions room') step b.ready enough x

  -- a line is left, so the step gives one
  pub gives-one : step.outcome ≡ Ok (Some (bytes_of step.outcome))
  gives-one = by turned
    where
      by : Turned input p.report lent-part step (lends left.metrics left.decisions room') → step.outcome ≡ Ok (Some (bytes_of step.outcome))
      by (nothing o l z) = absurd (omega (arith, z, b.more))
      by (gives line after g ready f z w c) = subst (λ (o : Result (Option ℕ) Refusal). o ≡ Ok (Some (bytes_of o))) (sym g.outcome) refl

  same_size : {size other : ℕ} → ◌≡◌ {A = Result (Option ℕ) Refusal} (Ok (Some size)) (Ok (Some other)) → size ≡ other
  same_size e = cc

  -- its size
  pub size_small : (size : ℕ) → step.outcome ≡ Ok (Some size) → p.size + size ≤ length listing
  size_small size e = by turned
    where
      by : Turned input p.report lent-part step (lends left.metrics left.decisions room') → p.size + size ≤ length listing
      by (nothing o l z) = absurd (omega (arith, z, b.more))
      by (gives line after g ready f z w c) = omega (arith, same_size (sym e ∙ g.outcome), g.short, b.room)

  -- it stands behind those before it
  pub line-added : (size : ℕ) → step.outcome ≡ Ok (Some size)
      → LineAdded input p lent listing left (take p.size listing ++ (room' ++ drop k (drop p.size listing))) (record { report = step.next; size = p.size + size })
  line-added size e = by turned
    where
      by : Turned input p.report lent-part step (lends left.metrics left.decisions room')
          → LineAdded input p lent listing left (take p.size listing ++ (room' ++ drop k (drop p.size listing))) (record { report = step.next; size = p.size + size })
      by (nothing o l z) = absurd (omega (arith, z, b.more))
      by (gives line after g ready f z w c) = record {
        line = line;
        short = g.short;
        size = ap (λ (m : ℕ). p.size + m) (same_size (sym e ∙ g.outcome));
        bytes =
            ap (λ (m : List ℕ). take p.size listing ++ m)
            (ap₂ ◌++◌ (g.room_is ∙ ap (λ (m : List ℕ). line ++ drop (length line) m) behind-whole) nothing-more ∙ append-nil (line ++ drop (length line) behind));
        ready = subst (Ready input) (sym g.next) ready;
        next = λ lines l. f lines (subst (λ (r : Report). Left input r lines) g.next l);
        fewer = z ∙ ap (λ (r : Report). suc (lines_left input r)) (sym g.next);
        working = λ v l. w v (subst (λ (r : Report). Leaves input r left v) g.next l);
      }

-- ---- all lines

joined-more : (written : List (List ℕ)) (line : List ℕ) → joined (written ++ (line ∷ [])) ≡ joined written ++ line
joined-more [] line = append-nil line
joined-more (x ∷ written) line = ap (λ (m : List ℕ). x ++ m) (joined-more written line) ∙ sym (append_assoc x (joined written) line)

-- where no line is left, no line comes, and the working rooms stay
none_left : (input : List ℕ) (report : Report) (stage : Stage) (v : Rooms) → count_at stage report.heard (length (blocks_at input report)) ≡ 0
    → LeftAt stage input report [] × LeavesAt stage input report v v
none_left input report (S.Refused q) v e = absurd (omega (arith, e))
none_left input report S.PlateLine v e = absurd (omega (arith, e))
none_left input report S.ProfileLine v e = absurd (omega (arith, e))
none_left input report S.BlockLines v e = absurd (omega (arith, e))
none_left input report S.EndLine v e = absurd (omega (arith, e))
none_left input report S.Done v e = (refl, refl)

-- after i lines: they stand in the room, and what was left at first are they and what is left now
pub record Stands (input : List ℕ) (report : Report) (lent : Rooms) (listing : List ℕ) (i : ℕ) (lent' : Rooms) (listing' : List ℕ) (p : Progress) : Type 0 where
  pub written : List (List ℕ)
  pub size : p.size ≡ length (joined written)
  pub listing_is : listing' ≡ joined written ++ drop (length (joined written)) listing
  pub small : p.size ≤ 256 * i
  pub ready : Ready input p.report
  pub count : i + lines_left input p.report ≡ lines_left input report
  pub whole : (lines : List (List ℕ)) → Left input p.report lines → Left input report (written ++ lines)
  pub working : (v : Rooms) → Leaves input p.report lent' v → Leaves input report lent v

module _ (input : List ℕ) (report : Report) (lent : Rooms) (listing : List ℕ) where
  -- before the first
  pub none_yet : Ready input report → Stands input report lent listing 0 lent listing (record { report = report; size = 0 })
  none_yet ready = record {
    written = [];
    size = refl;
    listing_is = refl;
    small = omega arith;
    ready = ready;
    count = omega arith;
    whole = λ lines l. l;
    working = λ v l. l;
  }

  module _ (lines i : ℕ) (lent' : Rooms) (listing' : List ℕ) (p : Progress) (s : Stands input report lent listing i lent' listing' p) where
    -- what the next line asks
    pub line-fits : (before : BeforeLines input report lines lent listing) → i < lines → length listing' ≡ length listing
        → length lent'.metrics ≡ length lent.metrics → length lent'.decisions ≡ length lent.decisions → BeforeLine input p lent' listing'
    line-fits before h l m d = record {
      ready = s.ready;
      more = omega (arith, s.count, before.count, h);
      room = omega (arith, s.small, before.room, h, l);
      metrics = omega (arith, m, before.metrics);
      decisions = omega (arith, d, before.decisions);
    }

    -- one more
    pub one_more : (left : Rooms) (listing'' : List ℕ) (p' : Progress) → LineAdded input p lent' listing' left listing'' p' → Stands input report lent listing (i + 1) left listing'' p'
    one_more left listing'' p' a = record {
      written = s.written ++ (a.line ∷ []);
      size = a.size ∙ ap (λ (m : ℕ). m + length a.line) s.size ∙ sym (length-append (joined s.written) a.line) ∙ ap length (sym joined_is);
      listing_is =
          a.bytes
          ∙ ap₂ ◌++◌ front (ap (λ (m : List ℕ). a.line ++ drop (length a.line) m) rest)
          ∙ sym (append_assoc (joined s.written) a.line (drop (length a.line) (drop (length (joined s.written)) listing)))
          ∙ ap₂ ◌++◌ (sym joined_is) (drop-drop (length a.line) (length (joined s.written)) listing ∙ ap (λ (m : ℕ). drop m listing) size_is);
      small = omega (arith, a.size, a.short, s.small);
      ready = a.ready;
      count = omega (arith, a.fewer, s.count);
      whole = λ ls l.
          subst (λ (m : List (List ℕ)). Left input report m) (sym (append_assoc s.written (a.line ∷ []) ls)) (s.whole (a.line ∷ ls) (a.next ls l));
      working = λ v l. s.working v (a.working v l);
    }
      where
        joined_is : joined (s.written ++ (a.line ∷ [])) ≡ joined s.written ++ a.line
        joined_is = joined-more s.written a.line

        size_is : length (joined s.written) + length a.line ≡ length (joined (s.written ++ (a.line ∷ [])))
        size_is = sym (length-append (joined s.written) a.line) ∙ ap length (sym joined_is)

        front : take p.size listing' ≡ joined s.written
        front = ap (take p.size) s.listing_is ∙ take_at (joined s.written) (drop (length (joined s.written)) listing) p.size (sym s.size)

        rest : drop p.size listing' ≡ drop (length (joined s.written)) listing
        rest = ap (drop p.size) s.listing_is ∙ drop_at (joined s.written) (drop (length (joined s.written)) listing) p.size (sym s.size)

    -- after the last
    pub all-added : (before : BeforeLines input report lines lent listing) → i ≡ lines → LinesAdded input report lent listing lent' listing' p.size
    all-added before e =
        let none = none_left input p.report p.report.stage lent' (omega (arith, s.count, before.count, e)) in
        record {
          lines = s.written;
          are = subst (λ (m : List (List ℕ)). Left input report m) (append-nil s.written) (s.whole [] none.0);
          size_is = s.size;
          listing_is = s.listing_is;
          working = s.working lent' none.1;
        }
