-- The sections of Build's file of some events (01, "Build, Read"): which events each has, and its numbers S, G and L.
-- No bytes. Laws: proofs/Numbers.antt, proofs/Held.antt. Assumes nothing.
use Rattle.std.specs.Prelude.{ℕ, suc, ◌+◌, ◌-◌, ◌*◌, ◌/◌, Bool, length}
use mathlib.Core.List.{List, [], ◌∷◌, flatten}
use Rattle.std.proofs.Math.Option.{Option}
use Rattle.eit.specs.Sizes.{room}
use Rattle.eit.specs.declared.Sizes.{Sizes}
use Rattle.eit.specs.Events.{Event}
use Rattle.eit.specs.declared.Identity.{Identity}
use Rattle.packing.specs.Greedy.{reach, greedy, unpackable}
use Rattle.sections.specs.Segment.{table_of, first_section}
use Rattle.sections.specs.Section.{Header, version_of, Section, event_size}
use Rattle.sections.specs.Count.{segment_events}
use Rattle.sections.specs.Each.{each, lowest}
use Rattle.schedule.specs.Extent.{table_segments, last_index, last_table, last_table_id_of, last_segment}

-- a segment has at most eight sections
abbrev pub segment_sections_max : ℕ
segment_sections_max = 8

-- 01's term: unpackable. A segment that would need a ninth section, or that has an event with over 4,066 chain bytes
-- (02, W-206: for cable over 994)
unfoldable pub is_unpackable : Sizes → List Event → ℕ → Bool
unfolding reach
is_unpackable sizes es index = unpackable event_size (room sizes) segment_sections_max (segment_events index es)

-- the lowest such segment index; past the last event's segment there is none
unfoldable pub lowest_unpackable : Sizes → List Event → Option ℕ
unfolding lowest is_unpackable
lowest_unpackable sizes es = lowest (is_unpackable sizes es) 0 (suc (last_index 0 es))

-- 01's term: packing rule. Each section takes as many of the segment's next events as fit, in `bytes` bytes. A segment
-- without events is one section
unfoldable pub packed : ℕ → List Event → List (List Event)
unfolding greedy
packed bytes [] = [] ∷ []
packed bytes (e ∷ es) = greedy event_size bytes segment_sections_max (e ∷ es)

module _ (sizes : Sizes) (es : List Event) where
  -- the events of each section of a segment
  unfoldable pub packed_segment : ℕ → List (List Event)
  unfolding packed
  packed_segment index = packed (room sizes) (segment_events index es)

  -- G: the number of a segment's last section
  unfoldable pub segment_last : ℕ → ℕ
  unfolding packed_segment
  segment_last index = first_section index + (length (packed_segment index) - 1)

  -- L: the number of a table's last section, which is the last of its last segment
  unfoldable pub table_last : ℕ → ℕ
  unfolding segment_last
  table_last table = segment_last (last_segment es table)

module _ (sizes : Sizes) (identity : Identity) (es : List Event) where
  -- the header of section S in a segment
  abbrev pub header_of : ℕ → ℕ → Header
  header_of index S =
      record {
        table_id = table_of index;
        section_number = S;
        last_section_number = table_last sizes es (index / table_segments);
        segment_last_section_number = segment_last sizes es index;
        last_table_id = last_table_id_of es;
        triplet = identity.triplet;
        version = version_of identity (table_of index);
      }

  -- sections with these events, numbered from S on
  abbrev pub numbered_from : ℕ → ℕ → List (List Event) → List Section
  numbered_from index S [] = []
  numbered_from index S (p ∷ ps) = record { header = header_of index S; events = p } ∷ numbered_from index (suc S) ps

  -- the sections of a segment: from s0 on
  unfoldable pub sections_of_segment : ℕ → List Section
  unfolding table_last
  sections_of_segment index = numbered_from index (first_section index) (packed_segment sizes es index)

  -- the sections of a table: from its first segment to its last one, empty segments between them too
  unfoldable pub sections_of_table : ℕ → List Section
  unfolding flatten each sections_of_segment
  sections_of_table table =
      let first = table * table_segments in
      flatten (each sections_of_segment first (suc (last_segment es table - first)))

  -- the sections of the file: tables 0x50 to last_table_id
  unfoldable pub sections_of : List Section
  unfolding flatten each sections_of_table
  sections_of = flatten (each sections_of_table 0 (suc (last_table es)))
