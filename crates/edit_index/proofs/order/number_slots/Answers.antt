-- `number_slots` meets its contract: at each turn the first i entries are the slots from 0 on. Assumes nothing.
use Rattle.std.proofs.Common.{arith}
use Rattle.edit_index.proofs.OrderLaws.{number_all}
use Rattle.edit_index.proofs.order.number_slots.Goals as goal

pub returns : goal.returns
returns c = number_all c.args.order.now c.loop-i.order c.loop-i.i c.loop-i.invariant (omega arith)
