-- `plates::reduce::reduce` meets its contract: the three stages one after the other.
use Rattle.plates.proofs.Gaining.{narrow-same}
use Rattle.plates.proofs.HeadsCleared.{all-reduced}
use Rattle.plates.proofs.reduce.reduce.Goals as goal

pub part_columns-requires : goal.part_columns-requires
part_columns-requires c =
    let basis = c.columns-k.ensures in
    record {
      n_bound = c.requires.short;
      basis = basis.basis;
      by_index = narrow-same _ c.requires.narrow basis.same;
    }

pub clear_heads-requires : goal.clear_heads-requires
clear_heads-requires c =
    record {
      basis = c.part_columns.ensures.basis;
      parted = c.part_columns.ensures.parted;
    }

pub returns : goal.returns
returns c = all-reduced c.requires c.columns-k.ensures c.part_columns.ensures c.clear_heads.ensures
