-- What the tables of this crate ask of Build, Plan and Edit, where nothing else is said at broadcast's sizes.
-- Assumes nothing.
use Rattle.std.specs.Prelude.{ℕ, ◌+◌, ◌*◌, List, [], map, length, take, drop}
use Rattle.eit.specs.Sizes.{broadcast, section_overhead}
use Rattle.eit.specs.declared.Sizes.{Sizes}
use Rattle.script.specs.Edit.{Edited, edit}
use Rattle.sections.specs.Section.{Section, header_size, event_overhead}
use Rattle.schedule.specs.Build.{Built, file_of}
use Rattle.schedule.specs.ExampleLists.{row, Case}
use Rattle.schedule.specs.ExampleCalls.{build_with, plan_with, sections_with}
use Rattle.samples_proved.specs.SampleLists.{zeros}

-- Edit of twelve zeros, with empty pools
abbrev pub edit_of : List ℕ → Edited
edit_of script = edit broadcast (record { day = []; series = [] }) zeros script

-- Build under a base day and a version, into an output; and its answer if that is empty
abbrev pub build_of : Case → ℕ → ℕ → List ℕ → Built
build_of c base version output = build_with broadcast c base version output

abbrev pub answer : Case → Built
answer c = build_of c 49_273 0 []

-- the header, and the first event, of the section after n empty ones in Build's file
abbrev pub header_after : ℕ → Built → List ℕ
header_after n built = take header_size (drop (n * section_overhead) (file_of built))

abbrev pub event_after : ℕ → Built → List ℕ
event_after n built = take event_overhead (drop (n * section_overhead + header_size) (file_of built))

-- Plan
abbrev pub plan_of : Case → List (List ℕ)
plan_of c = plan_with broadcast c

-- of each section that Build writes: table_id, section_number and number of events; S, G, L and last_table_id
abbrev pub cuts_with : Sizes → Case → List (ℕ × ℕ × ℕ)
cuts_with sizes c =
    sections_with (λ (s : Section). (s.header.table_id, s.header.section_number, length s.events)) sizes c

abbrev pub cuts : Case → List (ℕ × ℕ × ℕ)
cuts c = cuts_with broadcast c

abbrev pub numbers : Case → List (ℕ × ℕ × ℕ × ℕ)
numbers c =
    sections_with
    (λ (s : Section).
    let h = s.header in (h.section_number, h.segment_last_section_number, h.last_section_number, h.last_table_id))
    broadcast c

-- cuts of n segments without events, from section 0 of a table on; and of n tables without events
abbrev pub empty_segment_cuts : ℕ → ℕ → List (ℕ × ℕ × ℕ)
empty_segment_cuts table n = map (λ (segment : ℕ). (table, 8 * segment, 0)) (row 0 n)

abbrev pub empty_table_cuts : ℕ → ℕ → List (ℕ × ℕ × ℕ)
empty_table_cuts table n = map (λ (t : ℕ). (t, 0, 0)) (row table n)
