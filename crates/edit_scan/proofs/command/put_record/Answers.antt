-- `command::put_record` meets its contract: each field is read at its place, and has at most 32 bits. Assumes nothing.
use Rattle.eit.proofs.Fields.{bytes_all}
use Rattle.edit_scan.proofs.OperandLaws.{read_record}
use Rattle.edit_scan.proofs.command.put_record.Goals as goal

pub returns : goal.returns
returns c =
    let operands = c.args.operands.now in
    read_record operands (bytes_all operands (λ k. (c.type_inv.operands k).fits)) _ c.read_field.ensures
    c.read_field-2.ensures c.read_field-3.ensures c.read_field-4.ensures c.read_field-5.ensures c.read_field-6.ensures
