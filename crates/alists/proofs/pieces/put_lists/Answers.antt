-- `pieces::put_lists` meets its contract: the lists from the index on are still to be put.
use lib.ListN.{drop, get_or}
use mathlib.Core.List.{map}
use Prim.Native.Nat.{◌+◌}
use Rattle.alists.specs.Lists.{list_of}
use Rattle.alists.specs.Text.{line, text_of}
use Rattle.alists.proofs.Putting.{going_done, going_on, going-room, going_start, lists-end, lists-here}
use native.Mathlib.Omega.{arith}
use Rattle.alists.proofs.pieces.put_lists.Goals as goal

pub loop-word-init : goal.loop-word-init
loop-word-init c =
    (omega arith, going_start c.args.room.now c.args.at (text_of (map (list_of c.args.most) c.args.words.now)))

pub put_list-next-requires : goal.put_list-next-requires
put_list-next-requires c =
    let here = line (list_of c.args.most (get_or c.args.words.now c.loop-word.word-index 0)) in
    let rest = text_of (map (list_of c.args.most) (drop (c.loop-word.word-index + 1) c.args.words.now)) in
    let g = rw (lists-here c.args.most c.args.words.now c.loop-word.word-index (omega arith)) at c.loop-word.invariant.1 in
    record {
      most_bound = c.requires.most_bound;
      word_bound = going-room here rest 32768 g c.requires.words_bound;
    }

pub loop-word-preserved : goal.loop-word-preserved
loop-word-preserved c =
    let here = line (list_of c.args.most (get_or c.args.words.now c.loop-word.word-index 0)) in
    let rest = text_of (map (list_of c.args.most) (drop (c.loop-word.word-index + 1) c.args.words.now)) in
    let g = rw (lists-here c.args.most c.args.words.now c.loop-word.word-index (omega arith)) at c.loop-word.invariant.1 in
    (omega arith, going_on here rest g c.put_list-next.ensures)

pub shape_of-room : goal.shape_of-room
shape_of-room c = c.loop-word.invariant.1.size

pub returns : goal.returns
returns c =
    going_done (rw (lists-end c.args.most c.args.words.now c.loop-word.word-index (omega arith)) at c.loop-word.invariant.1)
