-- The rows of a sound plate are plate rows.
use Rattle.decoding.specs.LiveRows.{PlateRows}
use Rattle.plates.specs.declared.Plate.{Plate}
use Rattle.plates.specs.Sound.{Sound}

pub plate-rows-of : {plate : Plate} → Sound plate → PlateRows plate.rows plate.k
plate-rows-of s = record { table = s.table; few = s.few; spans = s.reduced.spans }
