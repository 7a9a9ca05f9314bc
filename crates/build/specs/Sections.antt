-- Sections with the next events that fit, one after the other, as they are written (01, "Build, Read": the packing
-- rule). Laws: proofs/SectionsLaws.antt. Assumes nothing.
use Rattle.std.specs.Prelude.{ℕ, zero, suc, ◌+◌, ◌-◌, List, [], ◌∷◌, take, drop}
use Rattle.eit.specs.Sizes.{section_overhead}
use Rattle.eit.specs.Events.{Event}
use Rattle.eit.specs.declared.Identity.{Identity}
use Rattle.packing.specs.Greedy.{fit}
use Rattle.sections.specs.Segment.{table_of, first_section}
use Rattle.sections.specs.Section.{Header, version_of, Section, event_size, event_sizes}
use Rattle.codec_section.specs.HeaderRead.{held_header}
use Rattle.codec_section.specs.declared.header.SectionHeader.{SectionHeader}

-- the section with a header as the code has it, and its bytes
abbrev pub section_of : SectionHeader → List Event → Section
section_of header es = record { header = held_header header; events = es }

abbrev pub section_size_of : List Event → ℕ
section_size_of es = section_overhead + event_sizes es

-- the header of the first section of a segment that has so many, with L and last_table_id
abbrev pub first_header : ℕ → ℕ → ℕ → ℕ → Identity → SectionHeader
first_header index sections last last_table identity =
    record {
      table_id = table_of index;
      section_number = first_section index;
      last_section_number = last;
      segment_last_section_number = first_section index + (sections - 1);
      last_table_id = last_table;
      triplet = identity.triplet;
      version = version_of identity (table_of index);
    }

-- the header of the next section of a segment
abbrev pub next_header : Header → Header
next_header h =
    record {
      table_id = h.table_id;
      section_number = suc h.section_number;
      last_section_number = h.last_section_number;
      segment_last_section_number = h.segment_last_section_number;
      last_table_id = h.last_table_id;
      triplet = h.triplet;
      version = h.version;
    }

-- n sections, the first with this header, each with as many of the next events as fit in `room` bytes
unfoldable pub sections_from : ℕ → Header → ℕ → List Event → List Section
sections_from room h zero es = []
sections_from room h (suc n) es =
    let k = fit event_size room es in
    record { header = h; events = take k es } ∷ sections_from room (next_header h) n (drop k es)
