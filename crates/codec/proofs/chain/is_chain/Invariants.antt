-- `codec::chain::is_chain`: the bytes are a chain exactly if those that are left are. The measure is their number.
use Rattle.std.proofs.Common.{◌≡◌, length}
use Rattle.eit.specs.Chain.{is_chain}
use Rattle.codec.proofs.chain.is_chain.Given as goal

abbrev pub invariant-loop-rest : goal.invariant-loop-rest
invariant-loop-rest l = is_chain l.bytes ≡ is_chain l.rest

abbrev pub decreases-loop-rest : goal.decreases-loop-rest
decreases-loop-rest l = length l.rest
