-- `codec::chain::is_chain` meets its contract: a turn is `chain_goes_on` at the descriptor that begins the bytes that are
-- left, and each way out has its step. Assumes nothing.
use Rattle.std.proofs.Common.{sym, ◌∙◌, arith}
use Rattle.codec.proofs.ChainSteps.{chain_ends, chain_forbidden, chain_runs_out, chain_goes_on}
use Rattle.codec.proofs.chain.is_chain.Goals as goal
use Rattle.codec.proofs.chain.is_chain.Goals.{then-tag-via-then-tag, then-tag-via-else-tag+then-rest-size}

pub returns-then-tag : goal.returns-then-tag
returns-then-tag c =
    let rest = c.loop-rest.rest.now in
    let some = c.in-len2-up.len_at_least in
    sym (c.loop-rest.invariant ∙ elim c.then-tag.branch [
      | then-tag-via-then-tag w ↦ chain_forbidden rest some w.if-tag.true
      | then-tag-via-else-tag+then-rest-size w ↦ chain_runs_out rest some (omega (arith, c.from-size.ensures))
    ])

pub loop-rest-preserved : goal.loop-rest-preserved
loop-rest-preserved c =
    c.loop-rest.invariant
    ∙ chain_goes_on c.loop-rest.rest.now c.in-len2-up.len_at_least c.if-tag.false (omega (arith, c.from-size.ensures))
    (omega arith)

pub returns : goal.returns
returns c = c.is_empty.ensures ∙ chain_ends c.loop-rest.rest.now c.in_default.len_below ∙ sym c.loop-rest.invariant
