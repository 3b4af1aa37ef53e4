-- `exports::cells::put_reading` meets its contract, by the laws of proofs/ReadingCells.
use Rattle.exports.proofs.ReadingCells.{bit-fits, put-fixed, put-open}
use Rattle.exports.proofs.cells.put_reading.Goals as goal

pub overflow_cast-shown : goal.overflow_cast-shown
overflow_cast-shown c = bit-fits c.args.flag.reading c.args.fixed.now c.args.value.now _ c.in-Fixed.is c.requires.2

pub returns-in-Fixed : goal.returns-in-Fixed
returns-in-Fixed c = put-fixed c.args.flag.reading c.args.place c.args.fixed.now c.args.value.now _ c.in-Fixed.is c.requires.2

pub returns-in-Open : goal.returns-in-Open
returns-in-Open c =
    put-open c.args.flag.reading c.args.place c.args.fixed.now c.args.value.now _ c.in-Open.is
    (record { sfits = c.in-Open.known_told-in-Open-1-own.given.0.1 })
