-- Sections and events of a file in a segment, counted from its bytes (01, "Build, Read": "A file's sections in a
-- segment are .."). Laws: proofs/Count.antt. Assumes nothing.
use Rattle.std.specs.Prelude.{ℕ, ◌+◌, Bool, true, false, ◌&&◌, List, [], ◌∷◌, eqb, leb, ltb, length}
use Rattle.eit.specs.Events.{Event}
use Rattle.sections.specs.Segment.{segment_index, table_of, first_section}
use Rattle.sections.specs.Section.{Header, Section, section_events}
use Rattle.sections.specs.Decode.{sections_in}

-- a section of the segment with this index: one with that segment's table and section_number from s0 up to s0 + k − 1
abbrev pub is_in_first : ℕ → ℕ → Header → Bool
is_in_first index k h =
    eqb h.table_id (table_of index)
    && (leb (first_section index) h.section_number && ltb h.section_number (first_section index + k))

-- a segment's first k sections; those that the file lacks are not there
abbrev pub first_sections : ℕ → ℕ → List Section → List Section
first_sections index k [] = []
first_sections index k (s ∷ ss) =
    elim (is_in_first index k s.header) [ true ↦ s ∷ first_sections index k ss | false ↦ first_sections index k ss ]

-- the events that start in a segment
abbrev pub segment_events : ℕ → List Event → List Event
segment_events index [] = []
segment_events index (e ∷ es) =
    elim (eqb (segment_index e.start) index) [ true ↦ e ∷ segment_events index es | false ↦ segment_events index es ]

-- all sections in a segment: those with section_number s0 to s0 + 7
abbrev pub segment_sections : ℕ → List Section → List Section
segment_sections index ss = first_sections index 8 ss

-- how many sections a file has in a segment
unfoldable pub sections_counted : ℕ → List ℕ → ℕ → ℕ
unfolding sections_in
sections_counted base file index = length (segment_sections index (sections_in base file))

-- how many events the first k sections of a file hold in a segment
unfoldable pub events_counted : ℕ → List ℕ → ℕ → ℕ → ℕ
unfolding sections_in section_events
events_counted base file index k = length (section_events (first_sections index k (sections_in base file)))
