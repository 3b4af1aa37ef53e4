-- What the functions within the crate promise.
use Rattle.std.specs.Prelude.{◌-◌, cond, Err, None, Ok, Option, Result, Some, eqb, drop, get_or, length, set, Bool, false, true, List, ◌≡◌, ◌+◌, ◌<◌, suc, ℕ, ◌≤◌}
use Rattle.std.proofs.lemmas.List.Edits.{sets}
use Rattle.alists.specs.declared.numbers.Taken.{Taken}
use Rattle.alists.specs.Lines.{Found, Line, faulty, found, is_digit, nothing, reads, skipped}
use Rattle.alists.specs.Lists.{indices, largest, weight}
use Rattle.alists.specs.Reading.{Listed, Lists, Word, faulty_at, listed, lists, unlisted, word, wrong}
use Rattle.words.specs.Word.{bit}

-- ---- writing

-- text put into a room from a place on, as far as the room goes; the next place
pub record Puts (room : List ℕ) (at : ℕ) (text room' : List ℕ) (r : ℕ) : Type 0 where
  pub stands : room' ≡ sets room at text
  pub next : r ≡ at + length text

-- numbers below 100
pub record Small (numbers : List ℕ) : Type 0 where
  pub below : (j : ℕ) → get_or numbers j 0 < 100

-- numbers put into a table from its first place on
pub record Fills (table values table' : List ℕ) : Type 0 where
  pub stands : table' ≡ sets table 0 values

-- position i of a word put after `count` others, where it is a one
abbrev pub PutsBy : Bool → ℕ → List ℕ → ℕ → List ℕ → ℕ → Type 0
PutsBy true i table count table' r = (table' ≡ set table count (suc i)) × (r ≡ suc count)
PutsBy false i table count table' r = (table' ≡ table) × (r ≡ count)

-- whether it is one is told by its bit
pub record PutsOne (w i : ℕ) (table : List ℕ) (count : ℕ) (table' : List ℕ) (r : ℕ) : Type 0 where
  pub is : PutsBy (eqb (bit w i) 1) i table count table' r

-- the ones of a word put into a table, and how many they are
pub record FillsList (w : ℕ) (table table' : List ℕ) (r : ℕ) : Type 0 where
  pub stands : table' ≡ sets table 0 (indices w)
  pub count : r ≡ weight w

-- ---- reading

-- the digit at a place of a text, where one stands there
abbrev pub DigitAs : List ℕ → ℕ → Option ℕ → Type 0
DigitAs text at (Some d) = (at < length text) × (is_digit (get_or text at 0) ≡ true) × (d ≡ get_or text at 0 - 48) × (d < 10)
DigitAs text at None = at < length text → is_digit (get_or text at 0) ≡ false

-- a number found in a text: what stands after it is what stands from the next place on
abbrev pub NumberAs : Found → List ℕ → Option (Taken ℕ) → Type 0
NumberAs f text (Some n) = (f ≡ found n.value (drop n.next text)) × (n.next ≤ length text) × (n.value < 100)
NumberAs f text None = f ≡ nothing

-- r is that number, or that there is none
pub record ReadsNumber (f : Found) (text : List ℕ) (r : Option (Taken ℕ)) : Type 0 where
  pub is : NumberAs f text r

-- the end of a line
abbrev pub FeedAs : Line → List ℕ → List ℕ → Option ℕ → Type 0
FeedAs l values text (Some next) = (l ≡ reads values (drop next text)) × (next ≤ length text)
FeedAs l values text None = l ≡ faulty

-- a line whose numbers are the values
pub record ReadsLine (l : Line) (values text : List ℕ) (r : Option ℕ) : Type 0 where
  pub is : FeedAs l values text r

-- what stands after spaces
pub record Skips (text : List ℕ) (at r : ℕ) : Type 0 where
  pub after : drop r text ≡ skipped (drop at text)
  pub within : r ≤ length text

-- the numbers of a line put into a table from a place on, with what stands after the line
abbrev pub Stored : Type 0
Stored = Option (List ℕ × List ℕ)

-- a line of weights, the largest of which is met
abbrev pub met : ℕ → Line → Line
met most (reads ws s) = cond (eqb (largest ws) most) (reads ws s) faulty
met most faulty = faulty

-- where the line is faulty nothing is said of the table
abbrev pub stored : List ℕ → ℕ → Line → Stored
stored table i (reads vs s) = Some (sets table i vs, s)
stored table i faulty = None

-- the rest of a line, with its numbers in the table from a place on
abbrev pub StoredAs : Stored → List ℕ → List ℕ → Option ℕ → Type 0
StoredAs l text table' (Some next) = (l ≡ Some (table', drop next text)) × (next ≤ length text)
StoredAs l text table' None = l ≡ None

-- the table keeps its size
pub record StoresLine (l : Stored) (text table : List ℕ) (r : Option ℕ) (table' : List ℕ) : Type 0 where
  pub size : length table' ≡ length table
  pub is : StoredAs l text table' r

-- the word of a list
abbrev pub JudgedAs : Word → Option ℕ → Type 0
JudgedAs w (Some v) = w ≡ word v
JudgedAs w None = w ≡ wrong

-- r is that word, or that the list is faulty
pub record FindsWord (w : Word) (r : Option ℕ) : Type 0 where
  pub is : JudgedAs w r

-- the word of a list in a text
abbrev pub ListedAs : Listed → List ℕ → Option (Taken ℕ) → Type 0
ListedAs l text (Some n) = (l ≡ listed n.value (drop n.next text)) × (n.next ≤ length text)
ListedAs l text None = l ≡ unlisted

-- r is that word with the next place, or that the line is faulty
pub record ReadsList (l : Listed) (text : List ℕ) (r : Option (Taken ℕ)) : Type 0 where
  pub is : ListedAs l text r

-- the words of lists put into a table from a place on, with what stands after the lists, or the first list that is faulty
abbrev pub Laid : Type 0
Laid = Result (List ℕ × List ℕ) ℕ

-- by what the lists are
abbrev pub laid_from : List ℕ → ℕ → Lists → Laid
laid_from table i (lists ws s) = Ok (sets table i ws, s)
laid_from table i (faulty_at j) = Err j

-- what stands after them stands from the next place on
abbrev pub ListsAs : Laid → ℕ → List ℕ → List ℕ → Result ℕ ℕ → Type 0
ListsAs l count text table' (Ok next) = (l ≡ Ok (table', drop next text)) × (next ≤ length text)
ListsAs l count text table' (Err i) = (l ≡ Err i) × (i < count)

-- r is that place, or the faulty list
pub record ReadsLists (l : Laid) (count : ℕ) (text table : List ℕ) (r : Result ℕ ℕ) (table' : List ℕ) : Type 0 where
  pub size : length table' ≡ length table
  pub is : ListsAs l count text table' r
