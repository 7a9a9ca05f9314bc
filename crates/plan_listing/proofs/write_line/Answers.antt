-- `plan_listing::write_line` meets its contract: its three numbers, one behind the other (`line_written`).
-- Assumes nothing.
use Rattle.std.proofs.Common.{arith}
use Rattle.eit.proofs.Fields.{bytes_all}
use Rattle.codec.proofs.FieldLaws.{field_read}
use Rattle.plan_listing.proofs.ListingLaws.{line_written}
use Rattle.plan_listing.proofs.write_line.Goals as goal

pub returns : goal.returns
returns c =
    let section = c.args.section.now in
    let bytes = bytes_all section (λ k. (c.type_inv.section k).fits) in
    let table = (field_read section 0 1 bytes (omega arith) c.read_field.ensures).0 in
    let number = (field_read section 6 1 bytes (omega arith) c.read_field-2.ensures).0 in
    line_written section table number c.count_events.ensures c.number.ensures c.number-2.ensures c.number-3.ensures
