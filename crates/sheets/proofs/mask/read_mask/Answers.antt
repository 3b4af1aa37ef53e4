-- `mask::read_mask` meets its contract.
use Rattle.sheets.proofs.MaskLines.{word_fits, mask-by-word}
use Rattle.sheets.proofs.mask.read_mask.Goals as goal

pub slice_bounds-read_word-end : goal.slice_bounds-read_word-end
slice_bounds-read_word-end c = search word_fits

pub returns : goal.returns
returns c = search mask-by-word
