-- At each turn the first i entries are the slots from 0 on.
use Rattle.std.proofs.Common.{◌≡◌}
use Rattle.eit.specs.Overwrite.{overwrite}
use Rattle.edit_index.specs.Order.{slots_from}
use Rattle.edit_index.proofs.order.number_slots.Given as goal

abbrev pub invariant-loop-i : goal.invariant-loop-i
invariant-loop-i l = l.order ≡ overwrite l.fn.order 0 (slots_from 0 l.i)
