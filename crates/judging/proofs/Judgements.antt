-- From the ways of the two starts to the full paths and the plate's words.
use Rattle.std.proofs.Common.{Option}
use borrow.Author.Tests.{eq-eqb, ne_eqb}
use lib.ListN.{length}
use mathlib.Core.Bool.{Bool, false, true}
use mathlib.Core.List.{List}
use mathlib.Core.Logic.{◌↔◌}
use mathlib.Core.Path.{ap, refl, subst, sym, ◌∙◌, ◌≡◌}
use native.Mathlib.Omega.{arith}
use Prim.Native.Nat.{◌<◌, suc, ℕ, ◌≤◌}
use Rattle.plates.proofs.SoundIsPrepared.{prepared}
use Rattle.plates.specs.declared.Plate.{Plate}
use Rattle.plates.specs.Prepare.{IsWord, rows_of}
use Rattle.plates.specs.Sound.{Sound}
use Rattle.trellises.proofs.WordsTrellis.{words-spelled}
use Rattle.sheets.specs.declared.listed.Branch.{Branch}
use Rattle.trellises.specs.Graph.{Graph, Spells}
use Rattle.trellises.specs.Graph as Graphs
use Rattle.judging.proofs.CleanLines.{branch-ranged, listed-is}
use Rattle.judging.proofs.OurStates.{one_end, one-start, our-inside}
use Rattle.judging.proofs.Theirs.{section-listed}
use Rattle.judging.proofs.Ways.{Ended, path-way, way-below, way-path}
use Rattle.judging.specs.Judging.{AgreesBefore, Missing, Wrongly}
use Rattle.judging.specs.Ours.{ours}
use Rattle.judging.specs.Clean.{Clean}
use Rattle.judging.specs.Listing.{branch_at, branches_of, listed_graph}
use Rattle.judging.specs.Ways.{Differs, Same, Way}

-- the graph of clean lines has one state at each end
pub listed-ends : {n : ℕ} {es : List (Option Branch)} → Clean n es → 1 ≤ n → Ended (listed_graph n (branches_of es)) n
listed-ends {n} {es} k p = subst (λ (bs : List Branch). Ended (listed_graph n bs) n) (listed-is es (branch_at es) (λ i l. refl)) (record {
  start = refl;
  end = rw (ne_eqb n 0 (λ e. omega (arith, e, p)), eq-eqb n n refl);
  inside = λ t a b c l x.
      let r = section-listed (length es) (branch_at es) t x.place x.there in
      let q : (branch_at es r.0).to ≡ c = ap (λ (y : Graphs.Branch). y.to) (sym r.3) ∙ x.leads in
      rw (ne_eqb (suc t) 0 (λ e. omega (arith, e)), ne_eqb (suc t) n (λ e. omega (arith, e, l))) (subst (λ (z : ℕ). z < 1024) q (branch-ranged k r.0 r.1).to_small);
})

module _ {plate : Plate} (s : Sound plate) where
  our-ends : Ended (ours (rows_of plate) plate.mask) plate.n
  our-ends = record { start = one-start s; end = one_end s; inside = λ t a b c l x. our-inside s t a b c x }

  -- the words are our ways from the start
  word-way : (w : ℕ) → IsWord plate w ↔ Way (ours (rows_of plate) plate.mask) plate.n 0 0 w
  word-way w = (
    (λ c. let x = ((words-spelled plate (prepared s)).exact w).0 c in path-way (ours (rows_of plate) plate.mask) plate.n our-ends w x.0 x.1),
    λ f. ((words-spelled plate (prepared s)).exact w).1 (way-below (ours (rows_of plate) plate.mask) plate.n 0 0 w f, way-path (ours (rows_of plate) plate.mask) plate.n our-ends w f),
  )

  module _ (g : Graph) (e : Ended g plate.n) where
    -- the same ways: the full paths spell exactly the words
    pub found_right : Same g (ours (rows_of plate) plate.mask) plate.n 0 1 1 → Spells g plate.n (IsWord plate)
    found_right h = record {
      start = e.start;
      end = e.end;
      exact = λ w. (
        (λ c. let f = (h w).1 ((word-way w).0 c) in (way-below g plate.n 0 0 w f, way-path g plate.n e w f)),
        λ x. (word-way w).1 ((h w).0 (path-way g plate.n e w x.0 x.1)),
      );
    }

    agrees : (w : ℕ) (b : Bool) → Differs g (ours (rows_of plate) plate.mask) plate.n 0 1 1 w b → AgreesBefore g plate.n (IsWord plate) w
    agrees w b d = record {
      below = d.below;
      earlier = λ v l q. (
        (λ c. way-path g plate.n e v ((d.earlier v q).1 ((word-way v).0 c))),
        λ p. (word-way v).1 ((d.earlier v q).0 (path-way g plate.n e v l p)),
      );
    }

    pub found-wrongly : (w : ℕ) → Differs g (ours (rows_of plate) plate.mask) plate.n 0 1 1 w true → Wrongly g plate.n (IsWord plate) w
    found-wrongly w d = record {
      before = agrees w true d;
      spelled = way-path g plate.n e w d.side.0;
      no_word = λ c. d.side.1 ((word-way w).0 c);
    }

    pub found-missing : (w : ℕ) → Differs g (ours (rows_of plate) plate.mask) plate.n 0 1 1 w false → Missing g plate.n (IsWord plate) w
    found-missing w d = record {
      before = agrees w false d;
      word = (word-way w).1 d.side.0;
      not_spelled = λ p. d.side.1 (path-way g plate.n e w d.below p);
    }
