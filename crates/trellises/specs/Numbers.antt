-- The branches of a section, as numbers.
use Rattle.std.specs.Prelude.{ℕ, ◌+◌, ◌*◌, ◌/◌, ◌%◌, ◌^◌, cond}
use Rattle.words.specs.Parity.{parity}
use Rattle.trellises.specs.declared.Section.{Section}

-- x with digit e taken out
abbrev pub without : ℕ → ℕ → ℕ
without e x = x / 2 ^ e / 2 * 2 ^ e + x % 2 ^ e

-- how many branches the section has: each state has one, or two where a row begins
abbrev pub branch_count : Section → ℕ
branch_count c = cond c.begins (2 ^ c.live + 2 ^ c.live) (2 ^ c.live)

-- the state that branch x leaves: the row that begins is not yet live
abbrev pub leaves : Section → ℕ → ℕ
leaves c x = x % 2 ^ c.live

-- the bit of branch x: the sum modulo 2 of the section's position over the rows that it takes
abbrev pub bit_of : Section → ℕ → ℕ
bit_of c x = parity x c.column

-- the state that branch x leads to: the row that ends is no longer live
abbrev pub leads_to : Section → ℕ → ℕ
leads_to c x = cond c.ends (without c.ending x) x
