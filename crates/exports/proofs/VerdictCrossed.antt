-- How the replies of judging cross: a judgement into its cells, a refusal into the cell of the place.
use Rattle.std.proofs.Common.{Ok, Err}
use lib.ListN.{drop, length, set}
use mathlib.Core.List.{◌++◌, List}
use mathlib.Core.Logic.{inr}
use mathlib.Core.Path.{ap, ap₂, sym, ◌∙◌, ◌≡◌}
use Prim.Native.Nat.{ℕ}
use Rattle.exports.specs.Calls.{Crossing, RefusedAt, done}
use Rattle.exports.specs.Flat.{plate_of}
use Rattle.exports.specs.Verdicts.{CallsJudge, JudgementPut, VerdictCells, VerdictReply, VerdictShape}
use Rattle.exports.specs.Verdicts.{VerdictTo, verdict_as, verdict_cells, verdict_told}
use Rattle.judging.specs.declared.Judged.{Judged}
use Rattle.plates.specs.declared.Refusal.{Refusal}

module _ (text : List ℕ) (lent : VerdictCells) (x : VerdictReply) (words : List ℕ)
    (shape : VerdictShape (length words) (length lent.verdict) (length lent.states) (length lent.branches) (length lent.at))
    (judges : VerdictTo (plate_of words) text lent x) where
  -- a code and cells that the reply crosses as
  crossed : {out : Crossing VerdictCells} → out ≡ verdict_told lent x → CallsJudge words text lent out.code out.cells
  crossed e = record { by_shape = inr (shape, record { reply = x; promised = judges; crosses = e }) }

  -- the judgement is in its cells
  pub judge-told : {verdict' states' branches' : List ℕ} {v : Judged} → x.reply.verdict ≡ Ok v
      → JudgementPut v x.reply lent.verdict lent.states lent.branches verdict' states' branches'
      → CallsJudge words text lent done (verdict_cells x.room verdict' states' branches' (set lent.at 0 0))
  judge-told {verdict'} e laid =
      crossed
      (ap₂ (λ (s b : List ℕ). record { code = done; cells = verdict_cells x.room verdict' s b (set lent.at 0 0) }) laid.states_are laid.branches_are
      ∙ ap (λ (v : List ℕ). record {
        code = done;
        cells = verdict_cells x.room v (x.reply.states ++ drop 65 lent.states) (x.reply.branches ++ drop 64 lent.branches) (set lent.at 0 0);
      }) laid.verdict_is
      ∙ sym (ap (verdict_as lent x.room x.reply) e))

  -- the place is in its cell
  pub judge-refused : {q : Refusal} {r : ℕ} {at' : List ℕ} → x.reply.verdict ≡ Err q → RefusedAt q lent.at r at'
      → CallsJudge words text lent r (verdict_cells x.room lent.verdict lent.states lent.branches at')
  judge-refused e f =
      crossed
      (ap₂ (λ (c : ℕ) (p : List ℕ). record { code = c; cells = verdict_cells x.room lent.verdict lent.states lent.branches p }) f.number_is f.place_is
      ∙ sym (ap (verdict_as lent x.room x.reply) e))
