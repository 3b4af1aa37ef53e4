-- Decoding taken branch by branch: a step for each section, from the far end to the start.
use Rattle.std.specs.Prelude.{eqb, pos, ℤ, ◌&&◌, cond, not, List, [], ◌∷◌, ◌*◌, ◌+◌, ◌<◌, ◌^◌, suc, ℕ}
use Rattle.decoding.specs.declared.Counts.{Counts}
use Rattle.decoding.specs.Stepping.{SectionFits}
use Rattle.decoding.specs.Taking.{at_state, counting}
use Rattle.trellises.specs.declared.Section.{Section}
use Rattle.trellises.specs.Numbers.{bit_of, branch_count, leads_to}

-- the branch with bit b that leaves state i: the one that takes no beginning row, or the one that takes it
abbrev pub branch_by : Section → ℕ → ℕ → ℕ
branch_by c i b = cond (c.begins && not (eqb (bit_of c i) b)) (i + 2 ^ c.live) i

-- the state that it leads to
abbrev pub follow : Section → ℕ → ℕ → ℕ
follow c i b = leads_to c (branch_by c i b)

-- the sections by depth, and the samples from depth t on
module _ (sections : ℕ → Section) where
  -- the greatest metric of a way to the end, from state i at depth t
  abbrev pub best : List ℤ → ℕ → ℕ → ℤ
  best [] t i = pos 0
  best (y ∷ ys) t i = (at_state (sections t) y (best ys (suc t)) i).metric

  -- what is decided at state i
  abbrev pub decided : ℤ → List ℤ → ℕ → ℕ → ℕ
  decided y ys t i = (at_state (sections t) y (best ys (suc t)) i).bit

  -- the word read off from state i at depth t: its position 0 is position t
  abbrev pub word_from : List ℤ → ℕ → ℕ → ℕ
  word_from [] t i = 0
  word_from (y ∷ ys) t i = word_from ys (suc t) (follow (sections t) i (decided y ys t i)) * 2 + decided y ys t i

  -- what the steps counted, from the far end to depth t
  abbrev pub counted : List ℤ → ℕ → Counts
  counted [] t = record { additions = 0; comparisons = 0 }
  counted (y ∷ ys) t = counting (sections t) y (best ys (suc t)) (2 ^ (sections t).live) (counted ys (suc t))

-- sections that follow one another, up to depth n
pub record Chain (sections : ℕ → Section) (n : ℕ) : Type 0 where
  pub fits : (t : ℕ) → t < n → SectionFits (sections t)
  pub leads : (t : ℕ) → t < n → (x : ℕ) → x < branch_count (sections t) → leads_to (sections t) x < 2 ^ (sections (suc t)).live
