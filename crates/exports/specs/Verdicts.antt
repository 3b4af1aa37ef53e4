-- How a listing of branches judged against a plate crosses the interface: the cells, and the promise of the call.
use Rattle.plates.specs.declared.Refusal.{Refusal}
use Rattle.std.specs.Prelude.{drop, length, set, Bool, false, true, ◌++◌, List, ◌≡◌, ℕ, ◌≤◌, Result, Ok, Err}
use Rattle.exports.specs.Calls.{Calls, Crossing, done}
use Rattle.exports.specs.Flat.{plate_of}
use Rattle.judging.specs.declared.Judged.{Judged}
use Rattle.judging.specs.declared.Judgement.{Judgement}
use Rattle.judging.specs.Judging.{Judges, shown}
use Rattle.plates.specs.declared.Plate.{Plate}
use Rattle.plates.specs.Refusals.{number, place}
use Rattle.judging.specs.declared.Judged.TheVariants as J

-- the cells that are lent to the call
pub record VerdictCells : Type 0 where
  pub room : List ℕ
  pub verdict : List ℕ
  pub states : List ℕ
  pub branches : List ℕ
  pub at : List ℕ

-- the same, one by one
abbrev pub verdict_cells : List ℕ → List ℕ → List ℕ → List ℕ → List ℕ → VerdictCells
verdict_cells room verdict states branches at = record { room = room; verdict = verdict; states = states; branches = branches; at = at }

-- which verdict it is
abbrev pub verdict_number : Judged → ℕ
verdict_number J.Right = 0
verdict_number (J.SpelledWrongly w) = 1
verdict_number (J.NotSpelled w) = 2

-- the number and the word that is shown stand in the first two cells
abbrev pub verdict_put : List ℕ → Judged → List ℕ
verdict_put cells v = set (set cells 0 (verdict_number v)) 1 (shown v)

-- a judgement with the verdict v stands in its cells
pub record JudgementPut (v : Judged) (j : Judgement) (verdict states branches verdict' states' branches' : List ℕ) : Type 0 where
  pub verdict_is : verdict' ≡ verdict_put verdict v
  pub states_are : states' ≡ j.states ++ drop 65 states
  pub branches_are : branches' ≡ j.branches ++ drop 64 branches

-- what judging replies, with the room as it leaves it
pub record VerdictReply : Type 0 where
  pub reply : Judgement
  pub room : List ℕ

-- the verdict, the surplus by depth and by section, and place 0; or the place of the refusal alone
abbrev pub verdict_as : VerdictCells → List ℕ → Judgement → Result Judged Refusal → Crossing VerdictCells
verdict_as lent room j (Ok v) = record {
  code = done;
  cells = verdict_cells room (verdict_put lent.verdict v) (j.states ++ drop 65 lent.states) (j.branches ++ drop 64 lent.branches)
      (set lent.at 0 0);
}
verdict_as lent room j (Err q) =
    record { code = number q; cells = verdict_cells room lent.verdict lent.states lent.branches (set lent.at 0 (place q)) }

abbrev pub verdict_told : VerdictCells → VerdictReply → Crossing VerdictCells
verdict_told lent x = verdict_as lent x.room x.reply x.reply.verdict

-- how long the plate's run, the cells of the verdict, of the surplus and that of the place must be
abbrev pub VerdictShape : ℕ → ℕ → ℕ → ℕ → ℕ → Type 0
VerdictShape plate verdict states branches at = (132 ≤ plate) × (2 ≤ verdict) × (65 ≤ states) × (64 ≤ branches) × (1 ≤ at)

-- what the test of these lengths replies
pub record VerdictTested (plate verdict states branches at : ℕ) (r : Bool) : Type 0 where
  pub yes_is : r ≡ true → VerdictShape plate verdict states branches at
  pub no_is : r ≡ false → VerdictShape plate verdict states branches at → ⊥

-- what judging promises of its reply and its room
abbrev pub VerdictTo : Plate → List ℕ → VerdictCells → VerdictReply → Type 0
VerdictTo plate text lent x = Judges plate text lent.room x.room x.reply

-- fixed are the plate's run, the cells of the verdict, of the surplus and that of the place
abbrev pub CallsJudge : List ℕ → List ℕ → VerdictCells → ℕ → VerdictCells → Type 0
CallsJudge words text lent r lent' =
    Calls (VerdictShape (length words) (length lent.verdict) (length lent.states) (length lent.branches) (length lent.at)) lent
    (VerdictTo (plate_of words) text lent) (verdict_told lent) (record { code = r; cells = lent' })
