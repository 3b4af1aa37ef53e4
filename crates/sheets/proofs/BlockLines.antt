-- A block line or a heard line by its first field, and the counter of a heard line.
use Rattle.std.proofs.Common.{Some, None, Result, Err}
use Prim.Native.Nat.{ℕ, ◌+◌, ◌-◌, ◌≤◌}
use lib.IntN.{ℤ}
use lib.ListN.{length, take, drop}
use mathlib.Core.Bool.{Bool, true, false}
use mathlib.Core.List.{List}
use mathlib.Core.Path.{◌≡◌, refl, ap}
use Rattle.sheets.specs.Text.{tab, fields, fields_from}
use Rattle.sheets.specs.Numbers.{counter_of, worth}
use Rattle.sheets.specs.Words.{word_of}
use Rattle.sheets.specs.Blocks.{block_by, heard_rest, counter_by, counter_in, is_heard, heard_line}
use Rattle.sheets.specs.Readers.{FieldsRead, HeardRead, RestRead, LineRead, Until}
use Rattle.sheets.specs.declared.word.Word.{Word}
use Rattle.sheets.specs.declared.word.Word.TheVariants.{Cover, Mask, Row, Block, Heard, End, Other}
use Rattle.sheets.proofs.Parts.{parts-front, after_more, after_last}
use Rattle.sheets.proofs.Sampling.{read-bad}

-- a word that is not block
pub not-block : (w : Word) (fs : List (List ℕ)) → (w ≡ Block → ⊥) → block_by false w fs ≡ Err 1
not-block Cover fs h = refl
not-block Mask fs h = refl
not-block Row fs h = refl
not-block Block fs h = absurd (h refl)
not-block Heard fs h = refl
not-block End fs h = refl
not-block Other fs h = refl

-- a word that is not heard
pub not-heard : (w : Word) (fs : List (List ℕ)) → (w ≡ Heard → ⊥) → block_by true w fs ≡ Err 1
not-heard Cover fs h = refl
not-heard Mask fs h = refl
not-heard Row fs h = refl
not-heard Block fs h = refl
not-heard Heard fs h = absurd (h refl)
not-heard End fs h = refl
not-heard Other fs h = refl

pub no-counter : (w : Word) (fs : List (List ℕ)) → (w ≡ Heard → ⊥) → counter_by w fs ≡ 0
no-counter Cover fs h = refl
no-counter Mask fs h = refl
no-counter Row fs h = refl
no-counter Block fs h = refl
no-counter Heard fs h = absurd (h refl)
no-counter End fs h = refl
no-counter Other fs h = refl

module _ (line : List ℕ) (end : ℕ) (u : Until tab line 0 end) (w : Word) (e : word_of (take end line) ≡ w) where
  -- the word, and what follows it
  pub by_word : (heard : Bool) (room : List ℤ) (r : Result ℕ ℕ) (room' : List ℤ) → RestRead heard w (fields_from line (end + 1)) room r room'
      → LineRead heard (fields line) room r room'
  by_word heard room r room' h = rw (parts-front tab line end u, e) h

  pub heard-by : heard_line (fields line) ≡ is_heard w
  heard-by = rw (parts-front tab line end u, e)

  pub counter-by : counter_in (fields line) ≡ counter_by w (fields_from line (end + 1))
  counter-by = rw (parts-front tab line end u, e)

-- ---- the fields after heard

module _ (line : List ℕ) (a : ℕ) (h : a ≤ length line) where
  -- no counter
  pub heard-none : a ≡ length line → (room : List ℤ) → HeardRead (fields_from line (a + 1)) room (Err 2) room
  heard-none e room = read-bad _ _ room room 2 (ap heard_rest (after_last tab line a h e))

  pub counter-none : a ≡ length line → counter_by Heard (fields_from line (a + 1)) ≡ 0
  counter-none e = ap (counter_by Heard) (after_last tab line a h e)

  module _ (n : a ≡ length line → ⊥) (b : ℕ) (u : Until tab line (a + 1) b) where
    abbrev field : List ℕ
    field = take (b - (a + 1)) (drop (a + 1) line)

    -- a bad one
    pub heard-bad : counter_of field ≡ None → (room : List ℤ) → HeardRead (fields_from line (a + 1)) room (Err 2) room
    heard-bad e room = read-bad _ _ room room 2 (rw (after_more tab line a h n b u, e))

    -- a counter, and what follows it
    pub heard-on : (v : ℕ) → counter_of field ≡ Some v → (room : List ℤ) (r : Result ℕ ℕ) (room' : List ℤ) → FieldsRead 3 (fields_from line (b + 1)) room r room'
        → HeardRead (fields_from line (a + 1)) room r room'
    heard-on v e room r room' f = rw (after_more tab line a h n b u, e) f

    pub counter-there : counter_by Heard (fields_from line (a + 1)) ≡ worth (counter_of field)
    counter-there = rw (after_more tab line a h n b u)
