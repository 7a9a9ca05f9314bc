-- A section as data, and how many bytes it has (01, "The file of sections"). Laws: proofs/Version.antt,
-- proofs/Lengths.antt. Assumes nothing.
use Rattle.std.specs.Prelude.{ℕ, ◌+◌, ◌-◌, length, get_or}
use mathlib.Core.List.{List, [], ◌∷◌, map, flatten}
use Rattle.eit.specs.Sizes.{section_overhead}
use Rattle.eit.specs.Events.{Event}
use Rattle.eit.specs.declared.Triplet.{Triplet}
use Rattle.eit.specs.declared.Identity.{Identity}
use Rattle.sections.specs.Segment.{table_first}

-- what stands before a section's events, but for section_length and the fixed bits
pub record Header : Type 0 where
  pub table_id : ℕ
  pub section_number : ℕ
  pub last_section_number : ℕ
  pub segment_last_section_number : ℕ
  pub last_table_id : ℕ
  pub triplet : Triplet
  pub version : ℕ

-- a table's version among those of all tables, of which the first is that of table 0x50
abbrev pub table_version : List ℕ → ℕ → ℕ
table_version versions table = get_or versions (table - table_first) 0

-- the version that sections of a table have in a file with this identity (02, W-208)
unfoldable pub version_of : Identity → ℕ → ℕ
version_of identity table = table_version identity.versions table

-- a section: its header and its events
pub record Section : Type 0 where
  pub header : Header
  pub events : List Event

-- bytes of a section before its events
abbrev pub header_size : ℕ
header_size = 14

-- bytes of an event before its chain
abbrev pub event_overhead : ℕ
event_overhead = 12

-- that is 12 + length bytes
abbrev pub event_size : Event → ℕ
event_size e = event_overhead + length e.chain

-- the bytes of some events
abbrev pub event_sizes : List Event → ℕ
event_sizes [] = 0
event_sizes (e ∷ es) = event_size e + event_sizes es

-- the bytes of a whole section and of some sections, without making them
abbrev pub section_size : Section → ℕ
section_size s = section_overhead + event_sizes s.events

abbrev pub section_sizes : List Section → ℕ
section_sizes [] = 0
section_sizes (s ∷ ss) = section_size s + section_sizes ss

-- the headers of some sections, the events of each, and all their events, in their order
abbrev pub headers_of : List Section → List Header
headers_of ss = map (λ (s : Section). s.header) ss

abbrev pub events_by_section : List Section → List (List Event)
events_by_section ss = map (λ (s : Section). s.events) ss

unfoldable pub section_events : List Section → List Event
unfolding flatten
section_events ss = flatten (events_by_section ss)

-- the ids of some events
abbrev pub event_ids : List Event → List ℕ
event_ids es = map (λ (e : Event). e.id) es
