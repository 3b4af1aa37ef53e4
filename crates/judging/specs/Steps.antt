-- What the calls between the room and the judgement ask and promise.
use Rattle.std.specs.Prelude.{length, Bool, true, false, List, ◌≡◌, ◌*◌, ◌+◌, ◌-◌, ◌<◌, suc, ℕ, ◌≤◌, Ok}
use Rattle.sheets.specs.Listed.{entries}
use Rattle.trellises.specs.Graph.{Graph}
use Rattle.judging.specs.Clean.{Clean}
use Rattle.judging.specs.declared.Judged.{Judged}
use Rattle.judging.specs.declared.Judged.TheVariants.{NotSpelled, Right, SpelledWrongly}
use Rattle.judging.specs.declared.Judgement.{Judgement}
use Rattle.judging.specs.declared.walking.Place.{Place}
use Rattle.judging.specs.Ours.{OfPlate, ours}
use Rattle.judging.specs.Room.{Holds, ToldFrom, ToldIn, theirs}
use Rattle.judging.specs.Surplus.{SurplusIn}
use Rattle.judging.specs.Ways.{Differs, Same}
use Rattle.judging.specs.Marks.{MarkRight, mark_at}

-- the rows and the mask of a plate, and a listing in the room
pub record Ready (rows : List ℕ) (mask n : ℕ) (room : List ℕ) (lines : ℕ) : Type 0 where
  pub plate : OfPlate rows mask n
  pub holds : Holds n lines room

-- what one state of depth t asks: the lines of its depth are told
pub record Asking (rows : List ℕ) (mask n : ℕ) (room : List ℕ) (lines t : ℕ) : Type 0 where
  pub ready : Ready rows mask n room lines
  pub within : t ≤ n
  pub told : t < n → ToldIn n lines rows mask room t

-- what a step of the walk asks
pub record Stepping (rows : List ℕ) (mask n : ℕ) (room : List ℕ) (lines t u y : ℕ) : Type 0 where
  pub asking : Asking rows mask n room lines t
  pub before : t < n
  pub theirs_small : u ≤ 1024
  pub ours_small : y ≤ (ours rows mask).states t

-- and what it gives: the next numbers, which differ where these do, and whose earliest difference makes that of these
pub record SteppedTo (A B : Graph) (n t u y : ℕ) (p : Place) : Type 0 where
  pub theirs_small : p.theirs ≤ 1024
  pub ours_small : p.ours ≤ B.states (suc t)
  pub bit_small : p.bit < 2
  pub apart : (Same A B (n - t) t u y → ⊥) → Same A B (n - suc t) (suc t) p.theirs p.ours → ⊥
  pub on : (r : ℕ) (s : Bool) → (Same A B (n - t) t u y → ⊥) → Differs A B (n - suc t) (suc t) p.theirs p.ours r s
      → Differs A B (n - t) t u y (r * 2 + p.bit) s

-- the walk asks that all lines are told, and that the two starts differ
pub record WalkAsks (rows : List ℕ) (mask n : ℕ) (room : List ℕ) (lines : ℕ) : Type 0 where
  pub ready : Ready rows mask n room lines
  pub told : ToldFrom (theirs n lines room) rows mask n lines room 0
  pub apart : Same (theirs n lines room) (ours rows mask) n 0 1 1 → ⊥

-- the judgement asks that all lines are told
pub record VerdictAsks (rows : List ℕ) (mask n : ℕ) (room : List ℕ) (lines : ℕ) : Type 0 where
  pub ready : Ready rows mask n room lines
  pub told : ToldFrom (theirs n lines room) rows mask n lines room 0

-- and of a text that its lines are clean, with four numbers of room for each
pub record JudgedAsks (rows : List ℕ) (mask n : ℕ) (text : List ℕ) (lines : ℕ) (room : List ℕ) : Type 0 where
  pub plate : OfPlate rows mask n
  pub clean : Clean n (entries n text)
  pub count : lines ≡ length (entries n text)
  pub size : length room ≡ 4 * length (entries n text)

-- the judgement by the ways from the two starts
abbrev pub Found : Graph → Graph → ℕ → Judged → Type 0
Found A B n Right = Same A B n 0 1 1
Found A B n (SpelledWrongly w) = Differs A B n 0 1 1 w true
Found A B n (NotSpelled w) = Differs A B n 0 1 1 w false

-- ---- the surplus

-- it asks that the listing is right, and that its lines are told and marked
pub record SurplusAsks (rows : List ℕ) (n : ℕ) (room : List ℕ) (lines : ℕ) : Type 0 where
  pub mask : ℕ
  pub asks : VerdictAsks rows mask n room lines
  pub right : Same (theirs n lines room) (ours rows mask) n 0 1 1
  pub marks : (j : ℕ) → j < lines → MarkRight (theirs n lines room) room (mark_at room j) j

-- where the verdict is right
abbrev pub SurplusFor : Judged → List ℕ → ℕ → List ℕ → ℕ → Type 0
SurplusFor Right rows n room lines = SurplusAsks rows n room lines
SurplusFor (SpelledWrongly w) rows n room lines = Unit {0}
SurplusFor (NotSpelled w) rows n room lines = Unit {0}

-- the verdict that is found, with its surplus
pub record JudgedTo (g : Graph) (rows : List ℕ) (mask n : ℕ) (r : Judgement) : Type 0 where
  pub judged : Judged
  pub is : r.verdict ≡ Ok judged
  pub found : Found g (ours rows mask) n judged
  pub surplus : SurplusIn g n rows r.verdict r.states r.branches
