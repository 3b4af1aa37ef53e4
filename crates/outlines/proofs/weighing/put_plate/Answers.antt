-- `weighing::put_plate` meets its contract.
use Rattle.outlines.proofs.WeightsReplied.{text-refused, whole-refused, working-refused}
use Rattle.outlines.proofs.weighing.put_plate.Goals as goal

pub returns-then-plate-eq64 : goal.returns-then-plate-eq64
returns-then-plate-eq64 c = search whole-refused

pub returns-then-working-working_need : goal.returns-then-working-working_need
returns-then-working-working_need c = search working-refused

pub returns-then-room-lt2048 : goal.returns-then-room-lt2048
returns-then-room-lt2048 c = search text-refused
