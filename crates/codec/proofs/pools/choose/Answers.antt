-- `codec::pools::choose` meets its contract: what `pool` and `part` ensure of their results, put together.
-- Assumes nothing.
use Rattle.std.proofs.Common.{ℕ, List}
use mathlib.Core.Path.{ap, ◌∙◌}
use Rattle.eit.specs.Pools.{part}
use Rattle.eit.proofs.Pools.{choose_part}
use Rattle.codec.proofs.pools.choose.Goals as goal

pub returns : goal.returns
returns c =
    rw choose_part
    (c.part.ensures ∙ ap (λ (chosen : List ℕ). part chosen c.args.offset c.args.size) c.pool.ensures)
