-- `codec::pools::part` meets its contract: inside the pool by `part_inside`, outside by `part_outside`.
-- Assumes nothing.
use Rattle.std.proofs.Common.{arith}
use mathlib.Core.Path.{sym}
use native.Mathlib.Nat.{add-sub_cancel_left}
use Rattle.eit.proofs.Pools.{part_inside, part_outside}
use Rattle.codec.proofs.pools.part.Goals as goal

pub returns-then-to-pool : goal.returns-then-to-pool
returns-then-to-pool c = rw (part_inside c.args.pool.now c.args.offset c.args.size (omega arith), add-sub_cancel_left)

pub returns-else-to-pool : goal.returns-else-to-pool
returns-else-to-pool c = sym (part_outside c.args.pool.now c.args.offset c.args.size (omega arith))
