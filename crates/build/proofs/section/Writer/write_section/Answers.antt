-- `Writer::write_section` meets its contract: header, events and CRC_32 of what stands there are one write
-- (`section_written`). Assumes nothing.
use Rattle.build.specs.Held.{held}
use Rattle.build.specs.Sections.{section_of}
use Rattle.build.proofs.SectionLaws.{section_written}
use Rattle.build.proofs.section.Writer.write_section.Goals as goal

pub returns : goal.returns
returns c =
    let a = c.args in
    let es = held a.self.now a.from a.to in
    section_written a.self.now.base_day (section_of a.header es) a.out.now a.at c.requires.0 c.requires.1
    c.write_header.ensures c.write_events-end.ensures.0 c.write_events-end.ensures.1 c.crc32-crc.ensures
    c.write_field.ensures
