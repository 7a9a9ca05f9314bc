-- `skip_earlier` meets its contract: so far all records start before the start. Assumes nothing.
use Rattle.std.proofs.Common.{◌∙◌}
use Rattle.chain_room.proofs.PlaceLaws.{earlier_end}
use Rattle.chain_room.proofs.places.skip_earlier.Goals as goal

pub returns : goal.returns
returns c pools =
    c.max.ensures ∙ earlier_end c.loop-at.invariant c.loop-at-test.false c.loop-at.auto.at-end pools
