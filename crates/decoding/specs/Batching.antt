-- What the steps of a batch ask and give: one block, and the blocks up to one.
use Rattle.std.specs.Prelude.{ℕ, suc, ◌+◌, ◌*◌, ◌≤◌, ◌<◌, ℤ, pos, nat_abs, get_or, length, set, take, Bool, true, false, List, ◌≡◌}
use Rattle.std.specs.Int.Bits.{bit_xor}
use Rattle.trellises.specs.SectionOf.{section_of}
use Rattle.decoding.specs.declared.Answer.{Answer}
use Rattle.decoding.specs.declared.Counts.{Counts}
use Rattle.decoding.specs.declared.sweep.Sizes.{Sizes}
use Rattle.decoding.specs.Backward.{best, counted, word_from}
use Rattle.decoding.specs.Batch.{Blocks, block_at}
use Rattle.decoding.specs.Searching.{Searched}
use Rattle.decoding.specs.Stepping.{gain_limit}
use Rattle.decoding.specs.Sweeping.{Kept, RoomsFit}
use Rattle.decoding.specs.Turning.{turned_by}

-- r says whether so many samples are as many blocks of n as words, and the metrics as many
pub record AreBlocks (samples n words scores : ℕ) (r : Bool) : Type 0 where
  pub yes_is : r ≡ true → (samples ≡ words * n) × (scores ≡ words)
  pub no_is : r ≡ false → samples ≡ words * n → scores ≡ words → ⊥

-- what one block asks: its place is there, and its rooms are
pub record BlockFits (z : Sizes) (block : List ℤ) (at : ℕ) (words : List ℕ) (scores metrics : List ℤ) (decisions : List ℕ) : Type 0 where
  pub rooms : RoomsFit z block metrics decisions
  pub wanted : 0 < z.words
  pub word_there : at < length words
  pub score_there : at < length scores

-- what all blocks ask
pub record BlocksFit (z : Sizes) (samples : List ℤ) (words : List ℕ) (scores metrics : List ℤ) (decisions : List ℕ) : Type 0 where
  pub blocks : Blocks z.n samples words scores
  pub within : (i : ℕ) → i < length samples → nat_abs (get_or samples i (pos 0)) ≤ gain_limit
  pub wanted : 0 < z.words
  pub metric_room : z.half + z.half ≤ length metrics
  pub decision_room : z.n * z.words ≤ length decisions

-- a block was searched, and its answer stored at its place
pub record BlockPut (table : List ℕ) (z : Sizes) (block : List ℤ) (at : ℕ) (words : List ℕ) (scores metrics : List ℤ) (decisions words' : List ℕ)
    (scores' metrics' : List ℤ) (decisions' : List ℕ) (counts : Counts) : Type 0 where
  pub answer : Answer
  pub searched : Searched table z block metrics decisions metrics' decisions' answer
  pub words_are : words' ≡ set words at answer.word
  pub scores_are : scores' ≡ set scores at answer.metric
  pub counts_are : counts ≡ answer.counts

-- word and metric of a block, as they are searched
pub record SearchedAs (table : List ℕ) (z : Sizes) (block : List ℤ) (word : ℕ) (metric : ℤ) : Type 0 where
  pub word_is : word ≡ bit_xor (word_from (section_of (take z.k table)) (turned_by z.rest block) 0 0) z.rest
  pub metric_is : metric ≡ best (section_of (take z.k table)) (turned_by z.rest block) 0 0

-- the first b blocks were searched and their answers stored; the counts are the last one's
pub record BlocksPut (table : List ℕ) (z : Sizes) (samples : List ℤ) (words : List ℕ) (scores metrics : List ℤ) (decisions : List ℕ) (b : ℕ)
    (words' : List ℕ) (scores' metrics' : List ℤ) (decisions' : List ℕ) (counts : Counts) : Type 0 where
  pub words_size : length words' ≡ length words
  pub scores_size : length scores' ≡ length scores
  pub each : (i : ℕ) → i < b → SearchedAs table z (block_at z.n samples i) (get_or words' i 0) (get_or scores' i (pos 0))
  pub none : b ≡ 0 → counts ≡ record { additions = 0; comparisons = 0 }
  pub last : (i : ℕ) → b ≡ suc i → counts ≡ counted (section_of (take z.k table)) (turned_by z.rest (block_at z.n samples i)) 0
  pub kept : Kept z metrics decisions metrics' decisions'
