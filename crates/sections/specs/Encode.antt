-- The bytes of an event, of a section and of a file, field by field (01, "The file of sections"; EN 300 468, 5.2.4).
-- Laws: proofs/EventBytes.antt, proofs/HeaderBytes.antt, proofs/SectionBack.antt. Assumes nothing.
use Rattle.std.specs.Prelude.{ℕ, ◌+◌, ◌-◌, ◌*◌, Bool, true, false, length}
use mathlib.Core.List.{List, ◌++◌, map, flatten}
use Rattle.eit.specs.Fields.{big_endian}
use Rattle.eit.specs.Time.{start_bytes, duration_bytes}
use Rattle.eit.specs.Crc.{crc32}
use Rattle.eit.specs.Events.{Event}
use Rattle.sections.specs.Section.{Header, Section, section_size}

-- running_status: 0, or 5 for off air
abbrev pub running_status : Bool → ℕ
running_status off_air = elim off_air [ true ↦ 5 | false ↦ 0 ]

-- a bit: free_CA
abbrev pub bit_of : Bool → ℕ
bit_of b = elim b [ true ↦ 1 | false ↦ 0 ]

-- running_status (3 bits), free_CA (1 bit), chain length (12 bits)
abbrev pub status_word : Event → ℕ
status_word e = running_status e.off_air * 0x2000 + bit_of e.free_ca * 0x1000 + length e.chain

-- id (2); start as MJD (2) and six BCD digits; duration as six BCD digits; running_status, free_CA and chain length
-- (2); the chain
unfoldable pub event_bytes : ℕ → Event → List ℕ
event_bytes base e =
    big_endian 2 e.id
    ++ start_bytes base e.start
    ++ duration_bytes e.duration
    ++ big_endian 2 (status_word e)
    ++ e.chain

-- bits 1111, then 12-bit section_length: bytes after this field, of a section of `size` bytes
abbrev pub length_word : ℕ → ℕ
length_word size = 0xF000 + (size - 3)

-- bits 11, version (5 bits), current_next 1
abbrev pub version_byte : ℕ → ℕ
version_byte version = 0xC0 + version * 2 + 1

-- the 14 bytes before the events of a section of `size` bytes
unfoldable pub header_bytes : ℕ → Header → List ℕ
header_bytes size h =
    big_endian 1 h.table_id
    ++ big_endian 2 (length_word size)
    ++ big_endian 2 h.triplet.service_id
    ++ big_endian 1 (version_byte h.version)
    ++ big_endian 1 h.section_number
    ++ big_endian 1 h.last_section_number
    ++ big_endian 2 h.triplet.transport_stream_id
    ++ big_endian 2 h.triplet.original_network_id
    ++ big_endian 1 h.segment_last_section_number
    ++ big_endian 1 h.last_table_id

-- the events of a section
unfoldable pub event_loop_bytes : ℕ → List Event → List ℕ
unfolding flatten event_bytes
event_loop_bytes base es = flatten (map (event_bytes base) es)

-- what CRC_32 is taken over
unfoldable pub covered_bytes : ℕ → Section → List ℕ
unfolding header_bytes event_loop_bytes
covered_bytes base s = header_bytes (section_size s) s.header ++ event_loop_bytes base s.events

-- a section: CRC_32 over it leaves 0 (`crc_right` of eit)
unfoldable pub section_bytes : ℕ → Section → List ℕ
unfolding covered_bytes
section_bytes base s = covered_bytes base s ++ big_endian 4 (crc32 (covered_bytes base s))

-- a file is sections joined
unfoldable pub file_bytes : ℕ → List Section → List ℕ
unfolding flatten section_bytes
file_bytes base ss = flatten (map (section_bytes base) ss)
