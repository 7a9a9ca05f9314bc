-- `write_record` meets its contract: six stores in a row are one overwrite. Assumes nothing.
use Rattle.std.proofs.Common.{◌+◌, ◌*◌, ◌≤◌, length, arith, sym, ◌∙◌}
use Rattle.eit.specs.Records.{record_size}
use Rattle.list_records.proofs.WriteLaws.{record_sets, written_is, written_beyond}
use Rattle.list_records.proofs.records.write_record.Goals as goal

pub returns-then-list-i : goal.returns-then-list-i
returns-then-list-i c = sym (written_beyond c.args.list.now c.args.i c.args.event c.if-list-i.true)

pub returns : goal.returns
returns c =
    let room : c.args.i * record_size + record_size ≤ length c.args.list.now = omega arith in
    record_sets c.args.list.now (c.args.i * record_size) c.args.event room
    ∙ sym (written_is c.args.list.now c.args.i c.args.event room)
