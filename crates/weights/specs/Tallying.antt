-- What the counting of ways asks and does, from one state to all sections.
use Rattle.std.specs.Prelude.{get_or, length, List, ◌⊎◌, ◌≡◌, ◌*◌, ◌+◌, ◌-◌, ◌<◌, ◌^◌, ℕ, ◌≤◌}
use Rattle.decoding.specs.Backward.{Chain}
use Rattle.decoding.specs.Stepping.{SectionFits}
use Rattle.trellises.specs.declared.Section.{Section}
use Rattle.trellises.specs.Numbers.{branch_count, leads_to}
use Rattle.trellises.specs.SectionOf.{section_of}
use Rattle.weights.specs.Ways.{leaving, ways}

-- the numbers by weight of each state, 65 a state, which begin at `from`
abbrev pub olds : List ℕ → ℕ → ℕ → ℕ → ℕ
olds working from i w = get_or working (from + i * 65 + w) 0

-- what a branch asks: the numbers of the state that it leads to stand in the room
pub record BranchFits (working : List ℕ) (from : ℕ) (c : Section) (x w : ℕ) : Type 0 where
  pub section : SectionFits c
  pub number : x < 2 ^ 13
  pub weight : w < 65
  pub small : from < 2 ^ 32
  pub room : from + leads_to c x * 65 + 65 ≤ length working

-- what a state asks: each of its branches fits, and their sum too
pub record StateFits (working : List ℕ) (from : ℕ) (c : Section) (i w : ℕ) : Type 0 where
  pub section : SectionFits c
  pub state : i < 2 ^ c.live
  pub weight : w < 65
  pub small : from < 2 ^ 32
  pub room : (x : ℕ) → x < branch_count c → from + leads_to c x * 65 + 65 ≤ length working
  pub most : leaving c (olds working from) i w < 2 ^ 64

-- what a section asks: the old numbers, of `next` states, begin at `from`, and the new ones go to `to`, apart from them
pub record StepFits (working : List ℕ) (from to : ℕ) (c : Section) : Type 0 where
  pub section : SectionFits c
  pub next : ℕ
  pub leads : (x : ℕ) → x < branch_count c → leads_to c x < next
  pub apart : (from + next * 65 ≤ to) ⊎ (to + 2 ^ c.live * 65 ≤ from)
  pub old_room : from + next * 65 ≤ length working
  pub new_room : to + 2 ^ c.live * 65 ≤ length working
  pub small : length working < 2 ^ 32
  pub most : (i w : ℕ) → i < 2 ^ c.live → w < 65 → leaving c (olds working from) i w < 2 ^ 64

-- what a section does
pub record Stepped (working : List ℕ) (from to : ℕ) (c : Section) (working' : List ℕ) : Type 0 where
  pub size : length working' ≡ length working
  pub here : (i w : ℕ) → i < 2 ^ c.live → w < 65 → olds working' to i w ≡ leaving c (olds working from) i w

-- what all sections ask: half of the room has 65 numbers for each state of a depth, and no number of ways overflows
pub record TallyFits (rows : List ℕ) (n half : ℕ) (working : List ℕ) : Type 0 where
  pub short : n ≤ 64
  pub few : length rows ≤ 64
  pub chain : Chain (section_of rows) n
  pub room : (t : ℕ) → t ≤ n → 2 ^ (section_of rows t).live * 65 ≤ half
  pub end : (section_of rows n).live ≡ 0
  pub size : length working ≡ half + half
  pub small : half < 2 ^ 31
  pub most : (d t i w : ℕ) → t + d ≡ n → ways (section_of rows) d t i w < 2 ^ 64

-- the numbers of depth t stand in one half of the room
pub record Swept (rows : List ℕ) (n half t : ℕ) (working : List ℕ) (from : ℕ) : Type 0 where
  pub size : length working ≡ half + half
  pub either : (from ≡ 0) ⊎ (from ≡ half)
  pub here : (i w : ℕ) → i < 2 ^ (section_of rows t).live → w < 65 → olds working from i w ≡ ways (section_of rows) (n - t) t i w

-- the first 65 counts are the numbers of the start, and the others as they were
pub record Counted (rows : List ℕ) (n : ℕ) (counts counts' : List ℕ) : Type 0 where
  pub size : length counts' ≡ length counts
  pub here : (w : ℕ) → w < 65 → get_or counts' w 0 ≡ ways (section_of rows) n 0 0 w
  pub behind : (i : ℕ) → 65 ≤ i → get_or counts' i 0 ≡ get_or counts i 0
