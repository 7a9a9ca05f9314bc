-- `codec::pools::Pools::new` meets its contract: the types say that both pools are bytes. Assumes nothing.
use Rattle.eit.proofs.Fields.{bytes_all}
use Rattle.codec.proofs.pools.Pools.new.Goals as goal

pub invariant_of-result : goal.invariant_of-result
invariant_of-result c = (bytes_all _ (λ k. (c.type_inv.day k).fits), bytes_all _ (λ k. (c.type_inv.series k).fits))
