-- The ways through the sections to the far end, counted by weight.
use Rattle.std.specs.Prelude.{cond, ◌+◌, ◌^◌, suc, zero, ℕ}
use Rattle.trellises.specs.declared.Section.{Section}
use Rattle.trellises.specs.Numbers.{bit_of, leads_to}

-- numbers by weight, where a bit is added: a 1 moves each up by one weight
abbrev pub shifted : ℕ → (ℕ → ℕ) → ℕ → ℕ
shifted zero F w = F w
shifted (suc d) F zero = 0
shifted (suc d) F (suc w) = F w

-- at the far end: one way, of weight 0
abbrev pub ended : ℕ → ℕ
ended zero = 1
ended (suc w) = 0

-- `old` has the numbers by weight of each state of the next depth
module _ (c : Section) (old : ℕ → ℕ → ℕ) where
  -- the ways that begin with branch x
  abbrev pub along : ℕ → ℕ → ℕ
  along x w = shifted (bit_of c x) (old (leads_to c x)) w

  -- the ways that begin at state i: by its own branch and, where a row begins, by the one that takes it too
  abbrev pub leaving : ℕ → ℕ → ℕ
  leaving i w = cond c.begins (along i w + along (i + 2 ^ c.live) w) (along i w)

-- the ways of weight w from state i at depth t, through d sections to the end
abbrev pub ways : (ℕ → Section) → ℕ → ℕ → ℕ → ℕ → ℕ
ways sections zero t i w = ended w
ways sections (suc d) t i w = leaving (sections t) (ways sections d (suc t)) i w
