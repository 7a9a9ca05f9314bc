-- What W-201 claims (02, "How much text still fits"), each clause above its theorem: one record type. The value is
-- `still_fits` of proofs/StillFits.antt. A start may be any number. Assumes nothing.
use Rattle.std.specs.Prelude.{◌≡◌, not, ◌↔◌, ◌⊎◌, ℕ, ◌+◌, ◌≤◌, ◌<◌, T, length, None, Some}
use mathlib.Core.List.{List, [], ◌∷◌, map, Memᴰ}
use Rattle.eit.specs.Sizes.{sizes_of, broadcast, cable}
use Rattle.eit.specs.declared.Sizes.{Sizes}
use Rattle.eit.specs.declared.Caller.{Caller}
use Rattle.eit.specs.Chain.{is_chain}
use Rattle.eit.specs.Pools.{Pools}
use Rattle.eit.specs.Records.{EventList}
use Rattle.eit.specs.Events.{Event}
use Rattle.eit.specs.Sound.{sound, events_of}
use Rattle.script.specs.Form.{put_record}
use Rattle.script.specs.Edit.{edit}
use Rattle.sections.specs.Segment.{segment_index}
use Rattle.sections.specs.Count.{segment_events}
use Rattle.schedule.specs.Build.{build}
use Rattle.schedule.specs.Given.{Given, events, EightHold}
use Rattle.room.specs.OneMore.{inserted}
use Rattle.room.specs.ChainRoom.{chain_room}

-- eight sections hold the events of an event's segment with it among them, in some packing in order of start
abbrev pub HeldWith : Sizes → List Event → Event → Type 0
HeldWith sizes es e = EightHold sizes (inserted e es) (segment_index e.start)

-- an event of a list has a start
abbrev pub Taken : ℕ → List Event → Type 0
Taken start es = (e : Event) × Memᴰ e es × (e.start ≡ start)

-- what counts of an event in packing: its start and the length of its chain
abbrev pub start_and_length : Event → ℕ × ℕ
start_and_length e = (e.start, length e.chain)

pub record StillFitsFor (sizes : Sizes) : Type 0 where
  -- "An unsound list answers 12", whatever the start; a sound one is not refused
  pub unsound : (pools : Pools) (list : EventList) (start : ℕ) → T (not (sound sizes pools list))
      → chain_room sizes pools list start ≡ record { number = 12; given = None }
  pub answers : (pools : Pools) (list : EventList) (start : ℕ) → T (sound sizes pools list)
      → (chain_room sizes pools list start).number ≡ 0
  -- "give the largest chain length .. with which one more event at that start leaves its segment packable"; "No greater
  -- chain length fits, against all start-ordered packings": every event at that start is held exactly if its chain is
  -- no longer than the length that is given
  pub fits_exactly : (pools : Pools) (list : EventList) (e : Event) (n : ℕ) → T (is_chain e.chain)
      → (chain_room sizes pools list e.start).given ≡ Some n
      → HeldWith sizes (events_of pools list) e ↔ (length e.chain ≤ n)
  -- "0 to 4,066": at most what a section has for a chain; 18 bytes are the section's own, and 12 the event's
  pub at_most : (pools : Pools) (list : EventList) (start n : ℕ) → (chain_room sizes pools list start).given ≡ Some n
      → n + 30 ≤ sizes.section_limit
  -- "The length 1, which no chain has, is never given", but always one that some chain has. "0 is given then": by
  -- `fits_exactly`, where an event without descriptors is held and no longer one
  pub never_1 : (pools : Pools) (list : EventList) (start : ℕ) → (chain_room sizes pools list start).given ≡ Some 1 → ⊥
  pub a_chain : (pools : Pools) (list : EventList) (start n : ℕ) → (chain_room sizes pools list start).given ≡ Some n
      → (bs : List ℕ) × T (is_chain bs) × (length bs ≡ n)
  -- "None comes exactly when the start is taken, is past the last segment, or not even 0 fits" ..
  pub none_exactly : (pools : Pools) (list : EventList) (start : ℕ) → T (sound sizes pools list)
      → ((chain_room sizes pools list start).given ≡ None)
      ↔ (Taken start (events_of pools list) ⊎ (5_529_600 ≤ start)
      ⊎ ((e : Event) → e.start ≡ start → e.chain ≡ [] → HeldWith sizes (events_of pools list) e → ⊥))
  -- .. and then, at a start that is free and not past it, no event at all is held, whatever its chain is,
  pub none_held : (pools : Pools) (list : EventList) (start : ℕ) → T (sound sizes pools list)
      → (chain_room sizes pools list start).given ≡ None → (Taken start (events_of pools list) → ⊥) → start < 5_529_600
      → (e : Event) → e.start ≡ start → HeldWith sizes (events_of pools list) e → ⊥
  -- since where an event is held, one with a chain that is no longer is
  pub shorter_held : (es : List Event) (e f : Event) → f.start ≡ e.start → length f.chain ≤ length e.chain
      → HeldWith sizes es e → HeldWith sizes es f
  -- "The answer is about bytes of that segment only": sound lists whose events in that segment have the same starts and
  -- chain lengths answer alike, whatever else is different
  pub segment_only : (pools otherPools : Pools) (list other : EventList) (start : ℕ) → T (sound sizes pools list)
      → T (sound sizes otherPools other)
      → map start_and_length (segment_events (segment_index start) (events_of pools list))
      ≡ map start_and_length (segment_events (segment_index start) (events_of otherPools other))
      → chain_room sizes pools list start ≡ chain_room sizes otherPools other start
  -- so where the other segments are packable and Edit accepts a PUT of one more event, Build of the list with it says
  -- 10, for the event's segment, exactly if its chain is longer than the length that is given, or none is
  pub build_after : (g : Given sizes) (operands output : List ℕ) → length operands ≡ 17
      → let r = put_record operands in
      let edited = edit sizes g.pools g.list (0x01 ∷ operands) in
      let b = build sizes g.pools edited.list g.base g.identity output in
      edited.number ≡ 0
      → ((index : ℕ) → (index ≡ segment_index r.start → ⊥) → EightHold sizes (events g) index)
      → (b.number ≡ 10 → b.value ≡ segment_index r.start)
      × ((b.number ≡ 10)
      ↔ ((n : ℕ) → (chain_room sizes g.pools g.list r.start).given ≡ Some n → n < r.chain_length))

-- 02, W-206: ".. are shown for any section size .., then used at both", and "the text that still fits is at most 994"
pub record StillFits : Type 0 where
  pub any_size : (sizes : Sizes) → StillFitsFor sizes
  pub at_both : (caller : Caller) → StillFitsFor (sizes_of caller)
  pub broadcast_4066 : (pools : Pools) (list : EventList) (start n : ℕ)
      → (chain_room broadcast pools list start).given ≡ Some n
      → n ≤ 4_066
  pub cable_994 : (pools : Pools) (list : EventList) (start n : ℕ) → (chain_room cable pools list start).given ≡ Some n
      → n ≤ 994
