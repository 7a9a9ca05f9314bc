-- `codec_section::event::write_event` meets its contract: five writes, one behind the other, are one. Assumes nothing.
use Rattle.std.proofs.Common.{◌+◌, ◌≤◌, length, sym}
use borrow.Author.Tests.{leb-true}
use Rattle.sections.specs.Section.{event_overhead}
use Rattle.codec_section.proofs.EventWriteLaws.{event_written}
use Rattle.codec_section.proofs.event.write_event.Goals as goal

pub returns : goal.returns
returns c =
    let a = c.args in
    let inside : a.at + (event_overhead + length a.chain.now) ≤ length a.out.now =
    leb-true (a.at + (event_overhead + length a.chain.now)) (length a.out.now) (sym c.if-not-is_within.ensures) in
    event_written a.out.now a.at a.base_day a.event a.chain.now inside c.write_field.ensures c.write_start.ensures
    c.write_duration.ensures c.status_bits.ensures c.write_field-2.ensures c.write_chain.ensures
