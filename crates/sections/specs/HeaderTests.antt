-- What Read asks of a section before its events: a test for each of the refusals 20 to 23, on the section's bytes and
-- on the headers before it (01, "When a call says no"). Laws: proofs/HeaderBytes.antt, proofs/SameFile.antt,
-- proofs/Version.antt, proofs/Numbering.antt. Assumes nothing.
use Rattle.std.specs.Prelude.{ℕ, ◌+◌, ◌/◌, ◌%◌, Bool, true, false, ◌&&◌, ◌||◌, List, [], ◌∷◌, eqb, leb, ltb, length}
use Rattle.std.proofs.Math.Option.{Option, none, some}
use Rattle.eit.specs.Sizes.{section_overhead}
use Rattle.eit.specs.declared.Sizes.{Sizes}
use Rattle.eit.specs.Fields.{field}
use Rattle.eit.specs.Crc.{crc32}
use Rattle.eit.specs.declared.Triplet.{Triplet}
use Rattle.sections.specs.Segment.{table_first, table_max, first_of}
use Rattle.sections.specs.Section.{Header}
use Rattle.sections.specs.Decode.{stated_section_size, header_in}

-- table_id, 0x50 to 0x5F; last_table_id (0x50 to 0x5F)
abbrev pub is_table : ℕ → Bool
is_table table = leb table_first table && leb table table_max

-- 20: section cut, table_id or length out of range. section_length, 15 to 4,093, counts all bytes but the first three;
-- 02, W-206: for cable a section over 1,024 bytes is out of range
unfoldable pub is_framed : Sizes → List ℕ → Bool
is_framed sizes bs =
    eqb (length bs) (stated_section_size bs)
    && (leb section_overhead (length bs) && (leb (length bs) sizes.section_limit && is_table (field 0 1 bs)))

-- 21: over the whole section CRC_32 leaves 0
unfoldable pub has_right_crc : List ℕ → Bool
has_right_crc bs = eqb (crc32 bs) 0

-- bits 1111 before section_length; bits 11 before the version, and current_next 1 behind it
abbrev pub has_fixed_bits : List ℕ → Bool
has_fixed_bits bs = eqb (field 1 2 bs / 0x1000) 0xF && (eqb (field 5 1 bs / 64) 3 && eqb (field 5 1 bs % 2) 1)

-- t is this triplet
abbrev pub is_triplet : Triplet → Triplet → Bool
is_triplet triplet t =
    eqb t.service_id triplet.service_id
    && (eqb t.transport_stream_id triplet.transport_stream_id
    && eqb t.original_network_id triplet.original_network_id)

-- the header before, of those so far, the latest first
abbrev pub latest : List Header → Option Header
latest [] = none
latest (h ∷ hs) = some h

-- triplet and last_table_id are those of the section before
abbrev pub is_same_file : Option Header → Header → Bool
is_same_file none h = true
is_same_file (some g) h = is_triplet g.triplet h.triplet && eqb h.last_table_id g.last_table_id

-- the version of the latest section of a table, if one has come
abbrev pub version_in : List Header → ℕ → Option ℕ
version_in [] table = none
version_in (h ∷ hs) table = elim (eqb h.table_id table) [ true ↦ some h.version | false ↦ version_in hs table ]

-- 02, W-208: "Number 22 refuses a version that differs within a table only": it is that of an earlier section of the
-- table, wherever that stood
unfoldable pub is_same_version : List Header → Header → Bool
is_same_version before h = elim (version_in before h.table_id) [ none ↦ true | some version ↦ eqb h.version version ]

-- 22: fixed bits, identity, last_table_id (0x50 to 0x5F)
unfoldable pub is_header : List Header → List ℕ → Bool
unfolding is_same_version
is_header before bs =
    let h = header_in bs in
    has_fixed_bits bs && (is_table h.last_table_id && (is_same_file (latest before) h && is_same_version before h))

-- s0 ≤ S ≤ G ≤ L, G ≤ s0 + 7, and G = L or L ≥ s0 + 8
abbrev pub is_numbered : Header → Bool
is_numbered h =
    let s0 = first_of h.section_number in
    leb h.section_number h.segment_last_section_number
    && (leb h.segment_last_section_number h.last_section_number
    && (leb h.segment_last_section_number (s0 + 7)
    && (eqb h.segment_last_section_number h.last_section_number || leb (s0 + 8) h.last_section_number)))

-- the section with this table, section_number and last_section_number
abbrev pub is_at : ℕ → ℕ → ℕ → Header → Bool
is_at table number last h =
    eqb h.table_id table && (eqb h.section_number number && eqb h.last_section_number last)

-- the numbers of a section behind the one before it; the first is table 0x50, section 0
abbrev pub is_next : Option Header → Header → Bool
is_next none h = eqb h.table_id table_first && eqb h.section_number 0
is_next (some g) h =
    elim (ltb g.section_number g.segment_last_section_number) [
      | true ↦
          is_at g.table_id (g.section_number + 1) g.last_section_number h
          && eqb h.segment_last_section_number g.segment_last_section_number
      | false ↦ elim (ltb g.section_number g.last_section_number) [
        | true ↦ is_at g.table_id (first_of g.section_number + 8) g.last_section_number h
        | false ↦ eqb h.table_id (g.table_id + 1) && eqb h.section_number 0
      ]
    ]

-- 23: numbering, or table past last_table_id
unfoldable pub has_right_numbering : Option Header → Header → Bool
has_right_numbering before h = is_numbered h && (is_next before h && leb h.table_id h.last_table_id)
