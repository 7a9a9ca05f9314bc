-- The sections that the bytes of a file show, by their length fields alone: fields are read, and nothing is tested (01,
-- "The file of sections"; EN 300 468, 5.2.4). Laws: proofs/EventBytes.antt, proofs/HeaderBytes.antt, proofs/Exact.antt.
-- Assumes nothing.
use Rattle.std.specs.Prelude.{ℕ, ◌+◌, ◌-◌, ◌/◌, ◌%◌, List, map, eqb, length, drop}
use Rattle.eit.specs.Sizes.{section_overhead}
use Rattle.eit.specs.Fields.{bytes_at, field}
use Rattle.eit.specs.Time.{seconds_of, start_of}
use Rattle.eit.specs.Pools.{odd}
use Rattle.eit.specs.Events.{Event}
use Rattle.sections.specs.Section.{Header, Section, header_size, event_overhead}
use Rattle.sections.specs.Split.{split_by}

-- ---- an event

-- running_status (3 bits), free_CA (1 bit), chain length (12 bits)
abbrev pub status_field : List ℕ → ℕ
status_field bs = field 10 2 bs

-- how many bytes the event at the front of bs has, by its chain length
abbrev pub stated_event_size : List ℕ → ℕ
stated_event_size bs = event_overhead + status_field bs % 0x1000

-- the event that some bytes show
abbrev pub event_in : ℕ → List ℕ → Event
event_in base bs =
    record {
      id = field 0 2 bs;
      start = start_of base (bytes_at 2 5 bs);
      duration = seconds_of (bytes_at 7 3 bs);
      off_air = eqb (status_field bs / 0x2000) 5;
      free_ca = odd (status_field bs / 0x1000);
      chain = drop event_overhead bs;
    }

-- ---- a section

-- how many bytes the section at the front of bs has, by section_length: the bytes after its field
abbrev pub stated_section_size : List ℕ → ℕ
stated_section_size bs = 3 + field 1 2 bs % 0x1000

-- the header that some bytes show
abbrev pub header_in : List ℕ → Header
header_in bs =
    record {
      table_id = field 0 1 bs;
      section_number = field 6 1 bs;
      last_section_number = field 7 1 bs;
      segment_last_section_number = field 12 1 bs;
      last_table_id = field 13 1 bs;
      triplet =
          record {
            service_id = field 3 2 bs;
            transport_stream_id = field 8 2 bs;
            original_network_id = field 10 2 bs;
          };
      version = field 5 1 bs / 2 % 32;
    }

-- the bytes between the header and CRC_32
abbrev pub event_loop : List ℕ → List ℕ
event_loop bs = bytes_at header_size (length bs - section_overhead) bs

-- the same, split into events
unfoldable pub split_events : List ℕ → List (List ℕ)
unfolding split_by
split_events bs = split_by stated_event_size (event_loop bs)

-- the section that some bytes show
unfoldable pub section_in : ℕ → List ℕ → Section
unfolding split_events
section_in base bs = record { header = header_in bs; events = map (event_in base) (split_events bs) }

-- ---- a file

-- a file is sections joined: the bytes of each
unfoldable pub split_file : List ℕ → List (List ℕ)
unfolding split_by
split_file file = split_by stated_section_size file

-- and the sections that they show
unfoldable pub sections_in : ℕ → List ℕ → List Section
unfolding split_file section_in
sections_in base file = map (section_in base) (split_file file)
