-- Which segments Build's file has (01, "Build, Read": "last_table_id is that of the last event, 0x50 for no events.
-- Each table ends with its last segment that has events, or with section 0 if it has none"). Tables are counted from 0
-- here: table 0x50 is 0. Laws: proofs/Extent.antt. Assumes nothing.
use Rattle.std.specs.Prelude.{ℕ, ◌*◌, ◌/◌, Bool, true, false, ◌&&◌, List, [], ◌∷◌, eqb, leb}
use Rattle.eit.specs.Events.{Event}
use Rattle.sections.specs.Segment.{segment_index, table_of}

-- the segments of each table
abbrev pub table_segments : ℕ
table_segments = 32

-- the segment index of the last event; of none, `index`
abbrev pub last_index : ℕ → List Event → ℕ
last_index index [] = index
last_index index (e ∷ es) = last_index (segment_index e.start) es

-- the events that start in a table
abbrev pub table_events : ℕ → List Event → List Event
table_events table [] = []
table_events table (e ∷ es) =
    elim (eqb (segment_index e.start / table_segments) table) [
      | true ↦ e ∷ table_events table es
      | false ↦ table_events
          table es
    ]

-- last_table_id is that of the last event, 0x50 for no events
abbrev pub last_table : List Event → ℕ
last_table es = last_index 0 es / table_segments

abbrev pub last_table_id_of : List Event → ℕ
last_table_id_of es = table_of (last_index 0 es)

-- each table ends with its last segment that has events, or with section 0 if it has none: the index of that segment
abbrev pub last_segment : List Event → ℕ → ℕ
last_segment es table = last_index (table * table_segments) (table_events table es)

-- whether a segment is inside the range: its table is not past the last one, and it is not past its table's last
-- segment
abbrev pub is_inside : List Event → ℕ → Bool
is_inside es index =
    leb (index / table_segments) (last_table es) && leb index (last_segment es (index / table_segments))
