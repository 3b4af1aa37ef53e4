-- A14, judging a supplier's trellis: `judge` holds a listing of branch lines against a plate. Definitions: sheets/specs/Listed (the lines),
-- judging/specs/Listing (`faulty_at`, `repeats_at`, `listed_graph`), Judging (the conditions, `Wrongly`, `Missing`, `Judges`), Surplus (`SurplusOver`), and
-- trellises/specs/Graph (`Path`, `Spells`). A line that leaves depth 0 elsewhere than in state 0, or enters depth n elsewhere, is no bad line but a
-- useless branch: it is on no full path (`full-paths-from-zero-to-zero`).
use Rattle.std.proofs.Common.{Err, Ok, Result}
use lib.ListN.{drop, get_or, length, replicate}
use lib.Dec.{eqb}
use mathlib.Core.Bool.{Bool, cond, false, true, ◌||◌}
use mathlib.Core.List.{◌++◌, List, [], ◌∷◌}
use mathlib.Core.Logic.{inl, inr, ◌↔◌, ◌⊎◌}
use mathlib.Core.Path.{ap, refl, subst, ◌≡◌}
use native.Mathlib.Omega.{arith}
use borrow.Author.Tests.{eq-eqb}
use Prim.Native.Nat.{◌*◌, ◌+◌, ◌<◌, ◌^◌, ℕ, ◌≤◌}
use Rattle.demands.proofs.Demand1.{its-number}
use Rattle.demands.specs.Refusing.{Numbered, RefusesExactly}
use Rattle.judging.proofs.Determined.{judge-determined, right-exactly}
use Rattle.judging.specs.declared.Judged.{Judged}
use Rattle.judging.specs.declared.Judged.TheVariants.{NotSpelled, Right, SpelledWrongly}
use Rattle.judging.specs.declared.Judgement.{Judgement}
use Rattle.judging.specs.Judging.{JudgesBy, Judges, Missing, Wrongly, graph_against, judging_conditions, room_need}
use Rattle.judging.specs.Listing.{listed_graph}
use Rattle.judging.specs.Surplus.{BranchOn, Number, StateOn, SurplusIn, SurplusOver}
use Rattle.plates.specs.declared.Plate.{Plate}
use Rattle.plates.specs.declared.Refusal.{Refusal}
use Rattle.plates.specs.Prepare.{IsWord, rows_of}
use Rattle.plates.specs.Profile.{live_at}
use Rattle.plates.specs.Refusals.{number}
use Rattle.sheets.specs.declared.listed.Branch.{Branch}
use Rattle.sheets.specs.Listed.{entries}
use Rattle.trellises.specs.Graph.{Graph, Path, Spells}
use Rattle.trellises.specs.Smallest.{active_at}
use Rattle.words.specs.Word.{Earlier}

-- ---- start and end state 0

-- a path of a listing begins and ends in state 0
pub full-paths-from-zero-to-zero : (n : ℕ) (bs : List Branch) (w : ℕ) (p : Path (listed_graph n bs) n w) → (p.state 0 ≡ 0) × (p.state n ≡ 0)
full-paths-from-zero-to-zero n bs w p = (omega (arith, p.inside 0 (omega arith)), omega (arith, last))
  where
    one : ◌≡◌ {A = ℕ} (cond (eqb n 0 || eqb n n) 1 1024) 1
    one = go (eqb n 0)
      where
        go : (b : Bool) → ◌≡◌ {A = ℕ} (cond (b || eqb n n) 1 1024) 1
        go true = refl
        go false = rw (eq-eqb n n refl)

    last : p.state n < 1
    last = subst (λ (k : ℕ). p.state n < k) one (p.inside n (omega arith))

-- ---- refusals, in order: 5, 28, 26, 27, 8

-- the lines of the text
module _ (plate : Plate) (text room : List ℕ) where
  pub judge-numbers : Numbered (judging_conditions plate (entries plate.n text) room) (5 ∷ 28 ∷ 26 ∷ 27 ∷ 8 ∷ [])
  judge-numbers = (its-number, (its-number, ((λ q c. ap number c.is), ((λ q c. ap number c.is), (its-number, tt)))))

  -- four 64-bit numbers a line
  pub room-need-is : room_need (entries plate.n text) ≡ 4 * length (entries plate.n text)
  room-need-is = refl

  module _ (room' : List ℕ) (r : Judgement) (p : Judges plate text room room' r) where
    -- the reply by its verdict
    by-verdict : (v : Result Judged Refusal) → r.verdict ≡ v → JudgesBy plate (entries plate.n text) room room' v
    by-verdict v e = subst (JudgesBy plate (entries plate.n text) room room') e p.reply

    -- refused exactly under them
    pub judge-refuses-exactly : RefusesExactly Err (judging_conditions plate (entries plate.n text) room) r.verdict
    judge-refuses-exactly q = (
      (λ e. (by-verdict (Err q) e).0),
      λ h. ap (λ (j : Judgement). j.verdict)
          (judge-determined plate text room room' room r (record { verdict = Err q; states = replicate 65 0; branches = replicate 64 0 }) p
          (record { reply = (h, refl); surplus = (refl, refl) })).0,
    )

    -- a refused call leaves the room
    pub judge-refused-unchanged : (q : Refusal) → r.verdict ≡ Err q → room' ≡ room
    judge-refused-unchanged q e = (by-verdict (Err q) e).1

    module _ (not : (q : Refusal) → r.verdict ≡ Err q → ⊥) where
      -- success leaves the needed room zero, and the rest as it was
      pub judge-zeroes-room : room' ≡ replicate (room_need (entries plate.n text)) 0 ++ drop (room_need (entries plate.n text)) room
      judge-zeroes-room = go r.verdict refl p.reply
        where
          go : (v : Result Judged Refusal) → r.verdict ≡ v → JudgesBy plate (entries plate.n text) room room' v
              → room' ≡ replicate (room_need (entries plate.n text)) 0 ++ drop (room_need (entries plate.n text)) room
          go (Err q) e x = absurd (not q e)
          go (Ok Right) e x = x.2
          go (Ok (SpelledWrongly w)) e x = x.2
          go (Ok (NotSpelled w)) e x = x.2

      -- right exactly if the full paths spell exactly the plate's words
      pub judged-right-exactly : (r.verdict ≡ Ok Right) ↔ Spells (graph_against plate (entries plate.n text)) plate.n (IsWord plate)
      judged-right-exactly = right-exactly plate text room room' r p not

      -- otherwise a word is shown: spelled wrongly, or not spelled
      pub judged-otherwise : (r.verdict ≡ Ok Right → ⊥)
          → ((w : ℕ) × (r.verdict ≡ Ok (SpelledWrongly w)) × Wrongly (graph_against plate (entries plate.n text)) plate.n (IsWord plate) w)
          ⊎ ((w : ℕ) × (r.verdict ≡ Ok (NotSpelled w)) × Missing (graph_against plate (entries plate.n text)) plate.n (IsWord plate) w)
      judged-otherwise wrong = go r.verdict refl p.reply
        where
          go : (v : Result Judged Refusal) → r.verdict ≡ v → JudgesBy plate (entries plate.n text) room room' v
              → ((w : ℕ) × (r.verdict ≡ Ok (SpelledWrongly w)) × Wrongly (graph_against plate (entries plate.n text)) plate.n (IsWord plate) w)
              ⊎ ((w : ℕ) × (r.verdict ≡ Ok (NotSpelled w)) × Missing (graph_against plate (entries plate.n text)) plate.n (IsWord plate) w)
          go (Err q) e x = absurd (not q e)
          go (Ok Right) e x = absurd (wrong e)
          go (Ok (SpelledWrongly w)) e x = inl (w, e, x.1)
          go (Ok (NotSpelled w)) e x = inr (w, e, x.1)

    -- on a right listing the surplus: those on full paths are ours and the surplus, which is a number from 0 on, so that none is negative
    pub judged-surplus : r.verdict ≡ Ok Right → SurplusOver (graph_against plate (entries plate.n text)) plate.n (rows_of plate) r.states r.branches
    judged-surplus e =
        subst (λ (v : Result Judged Refusal). SurplusIn (graph_against plate (entries plate.n text)) plate.n (rows_of plate) v r.states r.branches) e p.surplus

    pub states-are-ours-and-surplus : r.verdict ≡ Ok Right → (t : ℕ) → t ≤ plate.n
        → Number (StateOn (graph_against plate (entries plate.n text)) plate.n t) (2 ^ live_at (rows_of plate) t + get_or r.states t 0)
    states-are-ours-and-surplus e = (judged-surplus e).state

    pub branches-are-ours-and-surplus : r.verdict ≡ Ok Right → (t : ℕ) → t < plate.n
        → Number (BranchOn (graph_against plate (entries plate.n text)) plate.n t) (2 ^ active_at (rows_of plate) t + get_or r.branches t 0)
    branches-are-ours-and-surplus e = (judged-surplus e).branch

-- ---- the earliest word

-- the word shown is spelled and no word, or a word and not spelled, and every earlier word is both or neither
module _ (g : Graph) (n : ℕ) (C : ℕ → Type 0) (w : ℕ) where
  pub wrongly-is-earliest : Wrongly g n C w → Path g n w × (C w → ⊥) × ((v : ℕ) → v < 2 ^ n → Earlier v w → C v ↔ Path g n v)
  wrongly-is-earliest x = (x.spelled, x.no_word, x.before.earlier)

  pub missing-is-earliest : Missing g n C w → C w × (Path g n w → ⊥) × ((v : ℕ) → v < 2 ^ n → Earlier v w → C v ↔ Path g n v)
  missing-is-earliest x = (x.word, x.not_spelled, x.before.earlier)
