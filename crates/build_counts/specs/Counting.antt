-- The sections of a segment and of all segments, with the bytes that they need (01, "Build, Read"). Laws:
-- proofs/PackLaws.antt, proofs/CountLaws.antt. Assumes nothing.
use Rattle.std.specs.Prelude.{ℕ, ◌+◌, true, false, length, Option, None, Some}
use mathlib.Core.List.{List, [], ◌∷◌, flatten}
use Rattle.std.proofs.Math.Option as maybe
use Rattle.std.proofs.Math.Option.{none, some}
use Rattle.eit.specs.Sizes.{section_overhead}
use Rattle.eit.specs.declared.Sizes.{Sizes}
use Rattle.eit.specs.Identity.{zero_identity}
use Rattle.eit.specs.Pools.{Pools}
use Rattle.eit.specs.Records.{EventList}
use Rattle.eit.specs.Events.{Event}
use Rattle.eit.specs.Sound.{sound, events_of}
use Rattle.packing.specs.Greedy.{unpackable}
use Rattle.sections.specs.Section.{event_size, event_sizes, section_sizes}
use Rattle.schedule.specs.SectionsOf.{segment_sections_max, packed, lowest_unpackable, sections_of}
use Rattle.schedule.specs.Plan.{plan}
use Rattle.build_counts.specs.declared.count.Packed.{Packed}
use Rattle.build_counts.specs.declared.count.Counted.{Counted}

-- the bytes of sections with these events
abbrev pub packed_sizes : List (List Event) → ℕ
packed_sizes [] = 0
packed_sizes (p ∷ ps) = section_overhead + event_sizes p + packed_sizes ps

-- the sections of a segment with these events, 255 if it is unpackable, and the bytes of its sections, of the first
-- eight if it is
abbrev pub packed_of : ℕ → List Event → Packed
packed_of room es =
    record {
      sections =
          elim (unpackable event_size room segment_sections_max es) [ true ↦ 255 | false ↦ length (packed room es) ];
      bytes = packed_sizes (packed room es);
    }

-- the bytes that Build's file needs, under `zero_identity`: under every other they are as many (`need_is`)
unfoldable pub need_of : Sizes → List Event → ℕ
unfolding sections_of
need_of sizes es = section_sizes (sections_of sizes zero_identity es)

-- a segment index as the code has it
abbrev pub index_found : maybe.Option ℕ → Option ℕ
index_found none = None
index_found (some index) = Some index

-- what Build asks of a list before it writes: of an unsound one nothing
unfoldable pub counted_of : Sizes → Pools → EventList → Option Counted
unfolding plan lowest_unpackable need_of
counted_of sizes pools list =
    elim (sound sizes pools list) [
      | false ↦ None
      | true ↦ Some (record {
        counts = flatten (plan sizes pools list);
        lowest = index_found (lowest_unpackable sizes (events_of pools list));
        need = need_of sizes (events_of pools list);
      })
    ]
