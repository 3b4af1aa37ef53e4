-- The calls of the judgement: from a text of clean lines to what is found of its graph.
use Rattle.std.proofs.Common.{Ok, Result}
use lib.ListN.{length, replicate}
use mathlib.Core.List.{List}
use mathlib.Core.Path.{ap, subst, sym, ◌∙◌, ◌≡◌}
use native.Mathlib.Omega.{arith}
use Prim.Native.Nat.{◌%◌, ◌-◌, ◌/◌, ◌<◌, ℕ}
use Rattle.plates.specs.declared.Refusal.{Refusal}
use Rattle.sheets.specs.Listed.{entries}
use Rattle.trellises.specs.Graph.{Graph}
use Rattle.judging.proofs.CleanLines.{clean-graph, clean-holds}
use Rattle.judging.proofs.RoomTold.{holds_same, theirs-same, told_moved}
use Rattle.judging.proofs.StatesTold.{start-states}
use Rattle.judging.specs.declared.Judged.{Judged}
use Rattle.judging.specs.declared.Judged.TheVariants as J
use Rattle.judging.specs.declared.Judgement.{Judgement}
use Rattle.judging.specs.Listing.{branches_of, listed_graph}
use Rattle.judging.specs.Marks.{AllMarked, MarkRight, Marked, mark_at}
use Rattle.judging.specs.Ours.{ours}
use Rattle.judging.specs.Room.{AllTold, Holds, SameLines, Stored, ToldAt, theirs}
use Rattle.judging.specs.Steps.{Asking, Found, JudgedAsks, JudgedTo, Ready, SurplusFor, VerdictAsks}
use Rattle.judging.specs.Surplus.{SurplusIn}
use Rattle.judging.specs.Ways.{Chain, Same, Tells}

-- ---- the verdict

module _ {rows : List ℕ} {mask n : ℕ} {room : List ℕ} {lines : ℕ} (p : VerdictAsks rows mask n room lines) where
  pub start-asks : Asking rows mask n room lines 0
  start-asks = record { ready = p.ready; within = omega arith; told = λ h j m e. p.told j (omega arith) m }

  whole : n - 0 ≡ n
  whole = omega arith

  pub start-same : (x : ℕ) → Tells (theirs n lines room) (ours rows mask) (n - 0) 0 1 x → x ≡ 1 → Same (theirs n lines room) (ours rows mask) n 0 1 1
  start-same x t e =
      subst (λ (d : ℕ). Same (theirs n lines room) (ours rows mask) d 0 1 1) whole (t.to 1 (omega (arith, start-states p.ready.plate)) e)

  pub start-apart : (x : ℕ) → Tells (theirs n lines room) (ours rows mask) (n - 0) 0 1 x → (x ≡ 1 → ⊥) → Same (theirs n lines room) (ours rows mask) n 0 1 1 → ⊥
  start-apart x t d s =
      d (t.from 1 (omega (arith, start-states p.ready.plate)) (subst (λ (k : ℕ). Same (theirs n lines room) (ours rows mask) k 0 1 1) (sym whole) s))

-- ---- a text

module _ {rows : List ℕ} {mask n : ℕ} {text : List ℕ} {lines : ℕ} {room : List ℕ} (p : JudgedAsks rows mask n text lines room) (room1 : List ℕ)
    (s : Stored (entries n text) (length (entries n text)) room1) (e : length room1 ≡ length room) where
  holds1 : Holds n lines room1
  holds1 = subst (λ (k : ℕ). Holds n k room1) (sym p.count) (clean-holds p.clean room1 (e ∙ p.size) s)

  graph1 : theirs n lines room1 ≡ listed_graph n (branches_of (entries n text))
  graph1 = ap (λ (k : ℕ). theirs n k room1) p.count ∙ clean-graph p.clean room1 (e ∙ p.size) s

  pub filled-ready : Ready rows mask n room1 lines
  filled-ready = record { plate = p.plate; holds = holds1 }

  module _ (room2 : List ℕ) (a : AllTold n lines rows mask room1 room2) where
    pub told-asks : VerdictAsks rows mask n room2 lines
    told-asks = record {
      ready = record { plate = p.plate; holds = holds_same a.same holds1 };
      told = λ j l m. subst (λ (g : Graph). ToldAt g rows mask n room2 j) (sym (theirs-same a.same n)) (a.told j l m);
    }

    found_of : (r : Judged) → Found (theirs n lines room2) (ours rows mask) n r → Found (listed_graph n (branches_of (entries n text))) (ours rows mask) n r
    found_of r f = subst (λ (g : Graph). Found g (ours rows mask) n r) (theirs-same a.same n ∙ graph1) f

    module _ (room3 : List ℕ) (m : AllMarked lines room2 room3 lines) (v : Judged) (f : Found (theirs n lines room2) (ours rows mask) n v) where
      marked : Marked n lines room2 room3 lines
      marked = m n told-asks.ready.holds

      same3 : SameLines lines room2 room3
      same3 = record { size = marked.same.size; start = marked.same.start; lead = marked.same.lead }

      graph3 : theirs n lines room3 ≡ theirs n lines room2
      graph3 = theirs-same same3 n

      marked-asks : VerdictAsks rows mask n room3 lines
      marked-asks = record {
        ready = record { plate = p.plate; holds = holds_same same3 told-asks.ready.holds };
        told = λ j l k. subst (λ (g : Graph). ToldAt g rows mask n room3 j) (sym graph3)
            (told_moved (theirs n lines room2) rows mask n room2 room3 j (sym (marked.same.start j k)) (sym (marked.same.lead j k)) (sym (marked.same.told j k)) (told-asks.told j l k));
      }

      mark-right : (j : ℕ) → j < lines → MarkRight (theirs n lines room3) room3 (mark_at room3 j) j
      mark-right j l = subst (λ (g : Graph). MarkRight g room3 (mark_at room3 j) j) (sym graph3) (record {
        yes_is = λ h. subst (λ (s : ℕ). Chain (theirs n lines room2) (s / 2048) (s / 2 % 1024)) (sym (marked.same.start j l)) ((marked.marks j l).yes_is h);
        no_is = λ c. (marked.marks j l).no_is (subst (λ (s : ℕ). Chain (theirs n lines room2) (s / 2048) (s / 2 % 1024)) (marked.same.start j l) c);
      })

      -- where the verdict is right, the surplus can be taken
      asks-for : (v : Judged) → Found (theirs n lines room2) (ours rows mask) n v → SurplusFor v rows n room3 lines
      asks-for J.Right h = record {
        mask = mask;
        asks = marked-asks;
        right = subst (λ (g : Graph). Same g (ours rows mask) n 0 1 1) (sym graph3) h;
        marks = mark-right;
      }
      asks-for (J.SpelledWrongly w) h = tt
      asks-for (J.NotSpelled w) h = tt

      pub surplus-for : SurplusFor v rows n room3 lines
      surplus-for = asks-for v f

      pub judged-to : (r : Judgement) → (r.verdict ≡ Ok v) × SurplusIn (theirs n lines room3) n rows (Ok v) r.states r.branches → JudgedTo (listed_graph n (branches_of (entries n text))) rows mask n r
      judged-to r e = record {
        judged = v;
        is = e.0;
        found = found_of v f;
        surplus =
            subst (λ (v : Result Judged Refusal). SurplusIn (listed_graph n (branches_of (entries n text))) n rows v r.states r.branches) (sym e.0)
            (subst (λ (g : Graph). SurplusIn g n rows (Ok v) r.states r.branches) (graph3 ∙ theirs-same a.same n ∙ graph1) e.1);
      }

      pub cleared-of : (room4 : List ℕ) → room4 ≡ replicate (length room3) 0 → room4 ≡ replicate (length room) 0
      cleared-of room4 q = q ∙ ap (λ (k : ℕ). replicate k 0) (marked.same.size ∙ a.same.size ∙ e)
