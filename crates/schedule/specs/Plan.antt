-- Plan as one total function of list and pools (01, "Build, Read": "Plan takes list and pools and returns sixteen
-- tables of thirty-two section counts for a list, those of Build's packing"). Laws: proofs/Plan.antt. Assumes nothing.
use Rattle.std.specs.Prelude.{ℕ, ◌+◌, ◌*◌, ◌/◌, ◌%◌, true, false, List, [], length, get_or}
use Rattle.eit.specs.declared.Sizes.{Sizes}
use Rattle.eit.specs.Pools.{Pools}
use Rattle.eit.specs.Records.{EventList}
use Rattle.eit.specs.Events.{Event}
use Rattle.eit.specs.Identity.{tables}
use Rattle.eit.specs.Sound.{sound, events_of}
use Rattle.sections.specs.Each.{each}
use Rattle.schedule.specs.Extent.{table_segments, is_inside}
use Rattle.schedule.specs.SectionsOf.{is_unpackable, packed_segment}

-- 0 outside a table's range, 255 for an unpackable segment (which is inside: `count_unpackable`); else the number of
-- its sections
unfoldable pub section_count : Sizes → List Event → ℕ → ℕ
unfolding is_unpackable packed_segment
section_count sizes es index =
    elim (is_inside es index) [
      | false ↦ 0
      | true ↦ elim (is_unpackable sizes es index) [ true ↦ 255 | false ↦ length (packed_segment sizes es index) ]
    ]

-- sixteen tables of thirty-two counts, each that of a segment index
unfoldable pub tabled : (ℕ → ℕ) → List (List ℕ)
unfolding each
tabled count =
    each (λ (table : ℕ). each (λ (segment : ℕ). count (table * table_segments + segment)) 0 table_segments) 0 tables

-- Plan. Every entry is 254 if the list is unsound
unfoldable pub plan : Sizes → Pools → EventList → List (List ℕ)
unfolding tabled section_count
plan sizes pools list =
    elim (sound sizes pools list) [
      | true ↦ tabled (section_count sizes (events_of pools list))
      | false ↦ tabled
          (λ (index : ℕ). 254)
    ]

-- the count of a segment
abbrev pub planned : List (List ℕ) → ℕ → ℕ
planned counts index = get_or (get_or counts (index / table_segments) []) (index % table_segments) 0
