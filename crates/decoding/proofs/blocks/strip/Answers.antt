-- `blocks::strip` meets its contract.
use Rattle.decoding.proofs.StripParts.{far-asks, lones-asks, lones-done, near-asks, picks-asks, picks_done}
use Rattle.decoding.proofs.blocks.strip.Goals as goal

pub fetch-requires : goal.fetch-requires
fetch-requires c = search near-asks

pub fetch-requires-then-step : goal.fetch-requires-then-step
fetch-requires-then-step c = search far-asks

pub picks-picked-requires : goal.picks-picked-requires
picks-picked-requires c = search picks-asks

pub returns-then-step : goal.returns-then-step
returns-then-step c = search picks_done

pub take_only_each-raised-requires : goal.take_only_each-raised-requires
take_only_each-raised-requires c = search lones-asks

pub returns : goal.returns
returns c = search lones-done
