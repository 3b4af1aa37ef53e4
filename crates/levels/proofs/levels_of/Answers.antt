-- `levels::levels_of` meets its contract: each refusal, with the room unchanged, and the levels.
use mathlib.Core.Logic.{inl, inr}
use mathlib.Core.Path.{refl}
use Rattle.levels.proofs.Calls.{count-passed, good-passed, length-passed, number-refused, numbers-passed, writable}
use Rattle.levels.proofs.levels_of.Goals as goal

pub returns-then-n-eq0 : goal.returns-then-n-eq0
returns-then-n-eq0 c = (inl (inl c.if-n-eq0.true, refl), refl)

pub returns-then-n-gt64 : goal.returns-then-n-gt64
returns-then-n-gt64 c = (inl (inr c.if-n-gt64.true, refl), refl)

pub returns-then-not-is_good : goal.returns-then-not-is_good
returns-then-not-is_good c =
    let fits = length-passed c.if-n-eq0.false c.if-n-gt64.false in
    (inr (fits, inl (c.is_good.ensures.no_is c.if-not-is_good.true, refl)), refl)

pub returns-then-values-n : goal.returns-then-values-n
returns-then-values-n c =
    let fits = length-passed c.if-n-eq0.false c.if-n-gt64.false in
    let good = good-passed (c.is_good.ensures.yes_is c.if-not-is_good.false) in
    (inr (fits, inr (good, inl (inl c.if-values-n.true, refl))), refl)

pub returns-then-room-n : goal.returns-then-room-n
returns-then-room-n c =
    let fits = length-passed c.if-n-eq0.false c.if-n-gt64.false in
    let good = good-passed (c.is_good.ensures.yes_is c.if-not-is_good.false) in
    (inr (fits, inr (good, inl (inr c.if-room-n.true, refl))), refl)

pub returns-in-Some : goal.returns-in-Some
returns-in-Some c =
    let fits = length-passed c.if-n-eq0.false c.if-n-gt64.false in
    let good = good-passed (c.is_good.ensures.yes_is c.if-not-is_good.false) in
    let args = c.args in
    let count = count-passed args.values.now args.room.now c.if-values-n.false c.if-room-n.false in
    (inr (fits, inr (good, inr (count, inl (number-refused _ _ c.if-values-n.false c.in-Some.ensures)))), refl)

pub write_levels-requires : goal.write_levels-requires
write_levels-requires c =
    let good = c.is_good.ensures.yes_is c.if-not-is_good.false in
    writable _ _ c.if-values-n.false c.in_default.ensures good c.if-room-n.false

pub returns : goal.returns
returns c =
    let fits = length-passed c.if-n-eq0.false c.if-n-gt64.false in
    let good = good-passed (c.is_good.ensures.yes_is c.if-not-is_good.false) in
    let args = c.args in
    let count = count-passed args.values.now args.room.now c.if-values-n.false c.if-room-n.false in
    let numbers = numbers-passed _ _ c.if-values-n.false c.in_default.ensures in
    ((fits, (good, (count, (numbers, tt)))), c.write_levels.ensures)
