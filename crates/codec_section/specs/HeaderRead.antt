-- A section's header as the code has it, and what reading one returns (01, "The file of sections"). Laws:
-- proofs/HeaderLaws.antt. Assumes nothing.
use Rattle.std.specs.Prelude.{List, ◌++◌, ℕ, leb, length, Option}
use Rattle.std.specs.Bool.{then_some}
use Rattle.eit.specs.Fields.{big_endian}
use Rattle.sections.specs.Section.{Header, header_size}
use Rattle.sections.specs.Encode.{length_word, version_byte}
use Rattle.sections.specs.Decode.{header_in}
use Rattle.codec_section.specs.declared.header.SectionHeader.{SectionHeader}

-- the header that the code's fields hold
abbrev pub held_header : SectionHeader → Header
held_header h =
    record {
      table_id = h.table_id;
      section_number = h.section_number;
      last_section_number = h.last_section_number;
      segment_last_section_number = h.segment_last_section_number;
      last_table_id = h.last_table_id;
      triplet = h.triplet;
      version = h.version;
    }

-- its bytes, in two parts (`header_joined`): table_id, section_length, service_id and version ..
abbrev pub front_bytes : ℕ → SectionHeader → List ℕ
front_bytes size h =
    big_endian 1 h.table_id
    ++ big_endian 2 (length_word size)
    ++ big_endian 2 h.triplet.service_id
    ++ big_endian 1 (version_byte h.version)

-- .. and the section's numbers, the other ids and last_table_id
abbrev pub rest_bytes : SectionHeader → List ℕ
rest_bytes h =
    big_endian 1 h.section_number
    ++ big_endian 1 h.last_section_number
    ++ big_endian 2 h.triplet.transport_stream_id
    ++ big_endian 2 h.triplet.original_network_id
    ++ big_endian 1 h.segment_last_section_number
    ++ big_endian 1 h.last_table_id

-- the header at the front of some bytes, if there are enough
abbrev pub header_read : List ℕ → Option Header
header_read bs = then_some (leb header_size (length bs)) (header_in bs)
