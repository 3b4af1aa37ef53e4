-- The branch of a section that leaves a state with a bit.
use Rattle.std.specs.Prelude.{ℕ, ◌+◌, ◌^◌, eqb, cond, Option, Some, None}
use Rattle.trellises.specs.declared.Section.{Section}
use Rattle.trellises.specs.Numbers.{bit_of, leads_to}

-- The branch that takes no beginning row, where it has the bit; or else, where a row begins, the one that takes it too, which has the
-- other bit; or else none
abbrev pub next_of : Section → ℕ → ℕ → Option ℕ
next_of c state bit =
    cond (eqb (bit_of c state) bit) (Some (leads_to c state)) (cond c.begins (Some (leads_to c (state + 2 ^ c.live))) None)
