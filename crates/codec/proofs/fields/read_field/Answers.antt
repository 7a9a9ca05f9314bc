-- `codec::fields::read_field` meets its contract: a turn adds a byte (`read_more`). Assumes nothing.
use Rattle.std.proofs.Common.{arith}
use Rattle.codec.proofs.FieldLaws.{read_more}
use Rattle.codec.proofs.fields.read_field.Goals as goal

pub loop-byte-preserved : goal.loop-byte-preserved
loop-byte-preserved c =
    let turn = c.loop-byte in
    rw c.from.ensures (read_more _ turn.byte-index turn.value (omega arith) (omega (arith, c.from.ensures)) turn.invariant)
