-- `pieces::put_pair` meets its contract.
use Rattle.alists.proofs.ListsPut.{pair_small}
use Rattle.alists.proofs.pieces.put_pair.Goals as goal

pub put_line-requires : goal.put_line-requires
put_line-requires c =
    record {
      small = pair_small c.args.one c.args.other c.requires.one_bound c.requires.other_bound;
      numbers_bound = c.requires.other_bound_2;
    }

pub returns : goal.returns
returns c = c.put_line.ensures
