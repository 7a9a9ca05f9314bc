-- How much text still fits, as one total function of sizes, pools, list and start (02, W-201). Laws:
-- proofs/Largest.antt, proofs/ByLength.antt, proofs/ChainRoom.antt. Assumes nothing.
use Rattle.std.specs.Prelude.{ℕ, zero, suc, ◌-◌, Bool, true, false, not, List, eqb, ltb, Option, None, Some}
use Rattle.eit.specs.Sizes.{room}
use Rattle.eit.specs.declared.Sizes.{Sizes}
use Rattle.eit.specs.Limits.{window_seconds}
use Rattle.eit.specs.Pools.{Pools}
use Rattle.eit.specs.Records.{EventList}
use Rattle.eit.specs.Events.{Event}
use Rattle.eit.specs.Sound.{sound, events_of}
use Rattle.sections.specs.Segment.{segment_index}
use Rattle.sections.specs.Section.{event_overhead}
use Rattle.schedule.specs.SectionsOf.{is_unpackable}
use Rattle.room.specs.OneMore.{inserted, event_of_length, is_taken}

-- "with which one more event at that start leaves its segment packable": whether a chain of n bytes does
unfoldable pub leaves_packable : Sizes → List Event → ℕ → ℕ → Bool
unfolding is_unpackable
leaves_packable sizes es start n =
    not (is_unpackable sizes (inserted (event_of_length start n) es) (segment_index start))

-- "the largest": the largest number up to a bound that passes a test, none if none does
unfoldable pub largest : (ℕ → Bool) → ℕ → Option ℕ
largest passes zero = elim (passes zero) [ true ↦ Some zero | false ↦ None ]
largest passes (suc n) = elim (passes (suc n)) [ true ↦ Some (suc n) | false ↦ largest passes n ]

-- "0 to 4,066" (02, W-206: for cable 994): the longest chain of an event that has a section to itself. A longer one
-- leaves no segment packable, so the bound only ends the search
abbrev pub chain_max : Sizes → ℕ
chain_max sizes = room sizes - event_overhead

-- "The length 1, which no chain has, is never given; 0 is given then"
abbrev pub never_one : Option ℕ → Option ℕ
never_one None = None
never_one (Some n) = Some (elim (eqb n 1) [ true ↦ 0 | false ↦ n ])

-- "None comes exactly when the start is taken, is past the last segment, or not even 0 fits"
unfoldable pub length_at : Sizes → List Event → ℕ → Option ℕ
unfolding leaves_packable largest
length_at sizes es start =
    elim (is_taken start es) [
      | true ↦ None
      | false ↦ elim (ltb start window_seconds) [
        | false ↦ None
        | true ↦ never_one (largest (leaves_packable sizes es start) (chain_max sizes))
      ]
    ]

-- what the call returns: the number of the answer, and the length that is given, if one is
pub record ChainRoom : Type 0 where
  pub number : ℕ
  pub given : Option ℕ

-- "An unsound list answers 12", ahead of none
unfoldable pub chain_room : Sizes → Pools → EventList → ℕ → ChainRoom
unfolding length_at
chain_room sizes pools list start =
    elim (sound sizes pools list) [
      | false ↦ record { number = 12; given = None }
      | true ↦ record { number = 0; given = length_at sizes (events_of pools list) start }
    ]
