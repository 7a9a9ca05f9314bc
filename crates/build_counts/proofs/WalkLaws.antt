-- A walk over the segments of a rising list: where it stands before a segment, and what the next segment takes.
-- Assumes nothing.
use mathlib.Core.Path.{◌≡◌, refl, sym, ap, ◌∙◌}
use mathlib.Core.Bool.{not}
use mathlib.Core.List.{List, ◌++◌}
use Prim.Native.Nat.{ℕ, suc, ◌+◌, ◌≤◌}
use native.Mathlib.Numerals.{add-one}
use native.Mathlib.Omega.{arith}
use lib.Dec.{T}
use lib.ListN.{length, drop, length-append}
use Rattle.eit.specs.Pools.{Pools}
use Rattle.eit.specs.Records.{lent_list, records_in, records_of}
use Rattle.eit.specs.Events.{Event, events_in, rising}
use Rattle.eit.specs.Sound.{events_of}
use Rattle.sections.specs.Count.{segment_events}
use Rattle.schedule.specs.Extent.{is_inside}
use Rattle.schedule.proofs.EventsFrom.{events_from, from_all, from_segment}
use Rattle.build_counts.specs.Between.{events_between, leading, is_next_inside}
use Rattle.build_counts.proofs.BetweenLaws.{between_all, between_take, between_length}
use Rattle.build_counts.proofs.RunLaws.{run_length, run_first, run_next, run_none, outside_none, inside_next}

module _ (pools : Pools) (numbers : List ℕ) (count : ℕ) where
  -- the events of the list
  abbrev pub held_events : List Event
  held_events = events_in pools (records_in count numbers)

  pub events_are : events_of pools (lent_list numbers count) ≡ held_events
  unfolding events_of records_of
  events_are = refl

  -- the events before place `from` are those of the segments before `index`
  pub record SegmentWalk (from index : ℕ) : Type 0 where
    pub inside : from ≤ count
    pub next : events_between pools numbers from count ≡ events_from index held_events

  pub walk_start : SegmentWalk 0 0
  walk_start = record { inside = omega arith; next = between_all pools numbers count 0 ∙ sym (from_all held_events) }

  module _ (rises : T (rising held_events)) {from index : ℕ} (walk : SegmentWalk from index) where
    dropped : drop from held_events ≡ events_from index held_events
    dropped = sym (between_all pools numbers count from) ∙ walk.next

    pub walk_inside : is_inside held_events index ≡ is_next_inside index (events_between pools numbers from count)
    walk_inside = inside_next held_events rises index ∙ ap (is_next_inside index) (sym walk.next)

    -- a segment outside the range has no held_events
    pub walk_past : T (not (is_inside held_events index)) → SegmentWalk from (index + 1)
    walk_past outside =
        let same : events_from (suc index) held_events ≡ events_from index held_events =
        run_none held_events rises index (outside_none held_events rises index outside) in
        record { inside = walk.inside; next = rw (add-one index) (walk.next ∙ sym same) }

    -- the events from `from` to `end` are those of the segment
    module _ (end : ℕ) (is-end : end ≡ from + leading index (events_between pools numbers from count)) where
      end_is : end ≡ from + length (segment_events index held_events)
      end_is =
          is-end
          ∙ ap (λ (es : List Event). from + leading index es) walk.next
          ∙ ap (λ (n : ℕ). from + n) (run_length held_events rises index)

      within : from + length (segment_events index held_events) ≤ count
      within =
          let here : List Event = segment_events index held_events in
          let behind : List Event = events_from (suc index) held_events in
          let size : length (events_between pools numbers from count) ≡ length (here ++ behind) =
          ap (λ (es : List Event). length es) (walk.next ∙ from_segment index held_events rises) in
          omega (arith, walk.inside, between_length pools numbers from count, length-append here behind)

      pub walk_events : events_between pools numbers from end ≡ segment_events index held_events
      walk_events =
          ap (events_between pools numbers from) end_is
          ∙ between_take pools numbers count from (length (segment_events index held_events)) within
          ∙ run_first held_events rises from index dropped

      pub walk_on : SegmentWalk end (index + 1)
      walk_on =
          record {
            inside = omega (arith, end_is, within);
            next =
                rw (add-one index)
                (between_all pools numbers count end
                ∙ ap (λ (i : ℕ). drop i held_events) end_is
                ∙ run_next held_events rises from index dropped);
          }
