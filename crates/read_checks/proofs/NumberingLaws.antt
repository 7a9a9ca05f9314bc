-- The numbers behind a section, case by case: the next of its segment, the first of the next segment, the first of the
-- next table. Assumes nothing.
use Prim.Native.Nat.{◌+◌, ◌≤◌, ◌<◌}
use mathlib.Core.Bool.{◌&&◌}
use mathlib.Core.Option.{some}
use mathlib.Core.Path.{◌≡◌}
use borrow.Author.Tests.{lt-ltb, le-ltb}
use lib.Dec.{eqb}
use Rattle.sections.specs.Segment.{first_of}
use Rattle.sections.specs.Section.{Header}
use Rattle.sections.specs.HeaderTests.{is_at, is_next}

module _ (g h : Header) where
  pub next_section_holds : g.section_number < g.segment_last_section_number
      → is_next (some g) h
      ≡ (is_at g.table_id (g.section_number + 1) g.last_section_number h
      && eqb h.segment_last_section_number g.segment_last_section_number)
  next_section_holds inside = rw (is_next, lt-ltb g.section_number g.segment_last_section_number inside)

  module _ (ends : g.segment_last_section_number ≤ g.section_number) where
    pub next_segment : g.section_number < g.last_section_number
        → is_next (some g) h ≡ is_at g.table_id (first_of g.section_number + 8) g.last_section_number h
    next_segment inside =
        rw (
          is_next,
          le-ltb g.section_number g.segment_last_section_number ends,
          lt-ltb g.section_number g.last_section_number inside,
        )

    pub next_table_holds : g.last_section_number ≤ g.section_number
        → is_next (some g) h ≡ (eqb h.table_id (g.table_id + 1) && eqb h.section_number 0)
    next_table_holds last =
        rw (
          is_next,
          le-ltb g.section_number g.segment_last_section_number ends,
          le-ltb g.section_number g.last_section_number last,
        )
