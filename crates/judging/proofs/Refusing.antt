-- The replies of judging: which refusal comes first, and the judgement where none does.
use Rattle.sheets.specs.declared.listed.Branch.{Branch}
use lib.ListN.{length, replicate}
use mathlib.Core.Bool.{Bool, false≢true}
use mathlib.Core.List.{List}
use mathlib.Core.Logic.{inl, inr}
use mathlib.Core.Path.{ap, refl, subst, sym, ◌∙◌, ◌≡◌}
use native.Mathlib.Numerals.{add-one}
use native.Mathlib.Omega.{arith}
use Prim.Native.Nat.{◌+◌, ◌<◌, ℕ, ◌≤◌}
use Rattle.plates.proofs.SoundIsPrepared.{sound}
use Rattle.plates.specs.declared.Plate.{Plate}
use Rattle.plates.specs.declared.Refusal.{Refusal}
use Rattle.plates.specs.declared.Refusal.TheVariants.{BranchFault, BranchTwice, MetricRoom, NotPrepared, TooManyLines}
use Rattle.plates.specs.Prepare.{IsPrepared, rows_of}
use Rattle.plates.specs.Refusals.{Passes, Refuses}
use Rattle.sheets.specs.Listed.{entries}
use Rattle.sheets.specs.Text.{lines}
use Rattle.judging.proofs.CleanLines.{entry-ranged}
use Rattle.judging.proofs.Judgements.{found-missing, found_right, found-wrongly, listed-ends}
use Rattle.judging.specs.Clean.{Clean}
use Rattle.judging.specs.declared.Judged.{Judged}
use Rattle.judging.specs.declared.Judged.TheVariants as J
use Rattle.judging.specs.declared.Judgement.{Judgement}
use Rattle.judging.specs.Judging.{FaultyLine, FirstLine, Judges, JudgesBy, RepeatedLine, Zeroed, graph_against, judging_conditions, room_need, too_many_lines}
use Rattle.judging.specs.Listing.{branches_of, faulty_at, listed_graph, repeats_at}
use Rattle.judging.specs.Ours.{OfPlate, ours}
use Rattle.judging.specs.Steps.{Found, JudgedTo}
use Rattle.judging.specs.Surplus.{SurplusIn}
use Rattle.judging.specs.Working.{FirstAt, FirstFound}
use Rattle.std.proofs.Common.{Err, None, Ok, Option, Result}

-- the first line that a test finds
first-line : (es : List (Option Branch)) (test : ℕ → Bool) (r : ℕ) → FirstAt (length es) test r → FirstLine es test r
first-line es test r f = record { there = f.there; found = f.here; first = f.before }

module _ (plate : Plate) (text room : List ℕ) where
  abbrev es : List (Option Branch)
  es = entries plate.n text

  -- a refusal, with no surplus and the room unchanged
  pub refused-reply : (q : Refusal) → Refuses (judging_conditions plate (entries plate.n text) room) q → (r : Judgement)
      → (r.verdict ≡ Err q) × (r.states ≡ replicate 65 0) × (r.branches ≡ replicate 64 0) → Judges plate text room room r
  refused-reply q x r e = record {
    reply = subst (JudgesBy plate (entries plate.n text) room room) (sym e.0) (x, refl);
    surplus = subst (λ (v : Result Judged Refusal). SurplusIn (graph_against plate (entries plate.n text)) plate.n (rows_of plate) v r.states r.branches) (sym e.0) (e.1, e.2);
  }

  pub refused-5 : (IsPrepared plate → ⊥) → Refuses (judging_conditions plate es room) NotPrepared
  refused-5 d = inl (d, refl)

  module _ (given : IsPrepared plate) where
    not-5 : (q : Refusal) → (IsPrepared plate → ⊥) × (q ≡ NotPrepared) → ⊥
    not-5 q x = x.0 given

    pub refused-28 : 1024 < length es → Refuses (judging_conditions plate es room) TooManyLines
    refused-28 l = inr (not-5, inl (l, refl))

    module _ (few : length (entries plate.n text) ≤ 1024) where
      not-28 : (q : Refusal) → too_many_lines es q → ⊥
      not-28 q x = omega (arith, x.0, few)

      pub refused-26 : (f : ℕ) → FirstAt (length es) (faulty_at es) f → Refuses (judging_conditions plate es room) (BranchFault (f + 1))
      refused-26 f first =
          inr (not-5, inr (not-28, inl (record { line = f; at = first-line es (faulty_at es) f first; is = ap BranchFault (add-one f) })))

      module _ (clear : FirstFound (length (entries plate.n text)) (faulty_at (entries plate.n text)) None) where
        not-26 : (q : Refusal) → FaultyLine es q → ⊥
        not-26 q x = false≢true (sym (clear x.line x.at.there) ∙ x.at.found)

        pub refused-27 : (g : ℕ) → FirstAt (length es) (repeats_at es) g → Refuses (judging_conditions plate es room) (BranchTwice (g + 1))
        refused-27 g second =
            inr (not-5, inr (not-28, inr (not-26, inl (record { line = g; at = first-line es (repeats_at es) g second; is = ap BranchTwice (add-one g) }))))

        module _ (single : FirstFound (length (entries plate.n text)) (repeats_at (entries plate.n text)) None) where
          not-27 : (q : Refusal) → RepeatedLine es q → ⊥
          not-27 q x = false≢true (sym (single x.line x.at.there) ∙ x.at.found)

          pub refused-8 : length room < room_need es → Refuses (judging_conditions plate es room) MetricRoom
          refused-8 l = inr (not-5, inr (not-28, inr (not-26, inr (not-27, inl (l, refl)))))

          pub all-clean : Clean plate.n es
          all-clean = record {
            few = few;
            short = (sound given).short;
            ranged = entry-ranged plate.n (lines text);
            faultless = clear;
            single = single;
          }

          pub of-this-plate : OfPlate (rows_of plate) plate.mask plate.n
          of-this-plate = record { plate = plate; sound = sound given; rows_are = refl; mask_is = refl; length_is = refl }

          module _ (enough : room_need (entries plate.n text) ≤ length room) where
            passes : Passes (judging_conditions plate es room)
            passes = (not-5, (not-28, (not-26, (not-27, ((λ q x. omega (arith, x.0, enough)), tt)))))

            by-verdict : (v : Judged) → Found (listed_graph plate.n (branches_of (entries plate.n text))) (ours (rows_of plate) plate.mask) plate.n v
                → (room' : List ℕ) → Zeroed (room_need (entries plate.n text)) room room' → JudgesBy plate (entries plate.n text) room room' (Ok v)
            by-verdict J.Right h room' z =
                (passes, found_right (sound given) (listed_graph plate.n (branches_of (entries plate.n text))) (listed-ends all-clean (sound given).positive) h, z)
            by-verdict (J.SpelledWrongly w) h room' z =
                (passes, found-wrongly (sound given) (listed_graph plate.n (branches_of (entries plate.n text))) (listed-ends all-clean (sound given).positive) w h, z)
            by-verdict (J.NotSpelled w) h room' z =
                (passes, found-missing (sound given) (listed_graph plate.n (branches_of (entries plate.n text))) (listed-ends all-clean (sound given).positive) w h, z)

            pub judged-reply : (r : Judgement) → JudgedTo (listed_graph plate.n (branches_of (entries plate.n text))) (rows_of plate) plate.mask plate.n r
                → (room' : List ℕ) → Zeroed (room_need (entries plate.n text)) room room' → Judges plate text room room' r
            judged-reply r j room' z = record {
              reply = subst (JudgesBy plate (entries plate.n text) room room') (sym j.is) (by-verdict j.judged j.found room' z);
              surplus = j.surplus;
            }
