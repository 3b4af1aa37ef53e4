-- `strips::fetch` meets its contract.
use native.Mathlib.Omega.{arith}
use Prim.Native.Nat.{◌+◌, ◌^◌}
use Rattle.decoding.proofs.Gathering.{doubled-place, fits-there, gathered-there, paired-place, straight-place}
use Rattle.decoding.proofs.Targets.{without-le}
use Rattle.decoding.specs.Strips.{doubled, landing, paired, straight}
use Rattle.decoding.proofs.strips.fetch.Goals as goal

pub overflow_add-at : goal.overflow_add-at
overflow_add-at c =
    omega (arith, c.target.ensures, without-le c.args.x (2 ^ c.args.place), c.requires.number, c.requires.place)

pub doubles-requires : goal.doubles-requires
doubles-requires c =
    fits-there c.args.metrics.now (landing c.args.from c.args.place c.args.x) (doubled (c.args.from + c.target.result))
    (λ i l. doubled-place c.args.from c.args.place c.args.x c.requires.strip c.target.result c.requires.aligned c.target.ensures i l c.if-place-eq0.true) _ c.requires.gather

pub returns-then-place-eq0 : goal.returns-then-place-eq0
returns-then-place-eq0 c =
    gathered-there c.args.metrics.now (landing c.args.from c.args.place c.args.x) (doubled (c.args.from + c.target.result))
    (λ i l. doubled-place c.args.from c.args.place c.args.x c.requires.strip c.target.result c.requires.aligned c.target.ensures i l c.if-place-eq0.true) _ c.doubles.ensures

pub overflow_add-at-then-place-eq1 : goal.overflow_add-at-then-place-eq1
overflow_add-at-then-place-eq1 c =
    omega (arith, c.target-then-place-eq1.ensures, without-le c.args.x (2 ^ c.args.place), c.requires.number, c.requires.place)

pub pairs-requires : goal.pairs-requires
pairs-requires c =
    fits-there c.args.metrics.now (landing c.args.from c.args.place c.args.x) (paired (c.args.from + c.target-then-place-eq1.result))
    (λ i l. paired-place c.args.from c.args.place c.args.x c.requires.strip c.target-then-place-eq1.result c.requires.aligned c.target-then-place-eq1.ensures i l c.if-place-eq1.true) _ c.requires.gather

pub returns-then-place-eq1 : goal.returns-then-place-eq1
returns-then-place-eq1 c =
    gathered-there c.args.metrics.now (landing c.args.from c.args.place c.args.x) (paired (c.args.from + c.target-then-place-eq1.result))
    (λ i l. paired-place c.args.from c.args.place c.args.x c.requires.strip c.target-then-place-eq1.result c.requires.aligned c.target-then-place-eq1.ensures i l c.if-place-eq1.true) _ c.pairs.ensures

pub overflow_add-at-2 : goal.overflow_add-at-2
overflow_add-at-2 c =
    omega (arith, c.target-2.ensures, without-le c.args.x (2 ^ c.args.place), c.requires.number, c.requires.place)

pub copies-requires : goal.copies-requires
copies-requires c =
    fits-there c.args.metrics.now (landing c.args.from c.args.place c.args.x) (straight (c.args.from + c.target-2.result))
    (λ i l. straight-place c.args.from c.args.place c.args.x c.requires.strip c.target-2.result c.requires.aligned c.target-2.ensures i l c.if-place-lt5.false) _ c.requires.gather

pub returns : goal.returns
returns c =
    gathered-there c.args.metrics.now (landing c.args.from c.args.place c.args.x) (straight (c.args.from + c.target-2.result))
    (λ i l. straight-place c.args.from c.args.place c.args.x c.requires.strip c.target-2.result c.requires.aligned c.target-2.ensures i l c.if-place-lt5.false) _ c.copies.ensures
