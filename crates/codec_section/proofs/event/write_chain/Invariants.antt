-- `codec_section::event::write_chain`: after i turns the first i bytes are copied.
use Rattle.std.proofs.Common.{◌≡◌, ◌+◌, ◌≤◌, length}
use lib.Seq.{paste}
use Rattle.codec_section.proofs.event.write_chain.Given as goal

abbrev pub invariant-loop-i : goal.invariant-loop-i
invariant-loop-i l =
    (l.at + length l.chain ≤ length l.fn.out)
    × (l.i ≤ length l.chain)
    × (length l.out ≡ length l.fn.out)
    × (l.out ≡ paste l.fn.out l.at l.chain l.i)
