-- `codec_section::event::write_chain` meets its contract: one byte more is copied in each turn. Assumes nothing.
use Rattle.std.proofs.Common.{arith}
use lib.ListN.{length-set}
use Rattle.codec.proofs.WriteLaws.{paste_more}
use Rattle.codec_section.proofs.event.write_chain.Goals as goal

pub loop-i-preserved : goal.loop-i-preserved
loop-i-preserved c =
    let a = c.args in
    let turn = c.loop-i in (
      turn.invariant.0,
      omega arith,
      simp length-set turn.invariant.2,
      paste_more a.out.now a.at a.chain.now turn.i turn.invariant.0 c.loop-i-test.true turn.invariant.3,
    )
