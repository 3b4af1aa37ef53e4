-- `comparing::print_same` meets its contract.
use Rattle.programs.proofs.SameSaid.{first_said, none-of, other-there, reply-of, same-there, second-said}
use Rattle.programs.proofs.comparing.print_same.Goals as goal

pub hand_over-requires : goal.hand_over-requires
hand_over-requires g c = same-there c.write_same-compared.ensures (reply-of c.in-Ok-Same.is (rw c.in-Ok-Same.is at c.in-Ok-Same.field-0-is))

pub hand_over-requires-in-Ok-Different : goal.hand_over-requires-in-Ok-Different
hand_over-requires-in-Ok-Different g c = other-there c.write_same-compared.ensures (reply-of c.in-Ok-Different.is (rw c.in-Ok-Different.is at c.in-Ok-Different.field-0-is))

pub returns-in-Err-First : goal.returns-in-Err-First
returns-in-Err-First g c = first_said c.write_same-compared.ensures (none-of c.in-Err-First.is (rw c.in-Err-First.is at c.in-Err-First.field-0-is)) c.print_refused.ensures

pub returns-in-Err-Second : goal.returns-in-Err-Second
returns-in-Err-Second g c =
    second-said c.write_same-compared.ensures (none-of c.in-Err-Second.is (rw c.in-Err-Second.is at c.in-Err-Second.field-0-is)) c.print_refused-in-Err-Second.ensures
