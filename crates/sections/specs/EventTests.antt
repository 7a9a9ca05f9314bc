-- What Read asks of a section's events: a test for each of the refusals 24 and 26, on the section's bytes and on the
-- events before it (01, "When a call says no"). Laws: proofs/EventBytes.antt, proofs/EventLoop.antt, proofs/Order.antt.
-- Assumes nothing.
use Rattle.std.specs.Prelude.{ℕ, ◌+◌, ◌/◌, Bool, true, not, ◌&&◌, ◌||◌, List, [], ◌∷◌, map, eqb, leb, length, drop}
use Rattle.eit.specs.declared.Sizes.{Sizes}
use Rattle.eit.specs.Fields.{bytes_at}
use Rattle.eit.specs.Time.{is_start_bytes, is_duration_bytes, start_of}
use Rattle.eit.specs.Chain.{is_chain}
use Rattle.eit.specs.Among.{is_among}
use Rattle.eit.specs.Events.{Event, follows}
use Rattle.sections.specs.Segment.{segment_index, table_of, first_section, first_of}
use Rattle.sections.specs.Section.{Header, event_overhead, event_ids}
use Rattle.sections.specs.Decode.{status_field, stated_event_size, event_in, header_in, split_events}

-- an event starts in its section's segment
abbrev pub is_in_segment : Header → ℕ → Bool
is_in_segment h start =
    eqb (table_of (segment_index start)) h.table_id
    && eqb (first_section (segment_index start)) (first_of h.section_number)

-- an event's bytes are all there; start, duration and running_status are in range; its chain is one; it starts in the
-- segment
unfoldable pub is_event : ℕ → Header → List ℕ → Bool
is_event base h bs =
    let status = status_field bs / 0x2000 in
    eqb (length bs) (stated_event_size bs)
    && (is_start_bytes base (bytes_at 2 5 bs)
    && (is_duration_bytes (bytes_at 7 3 bs)
    && ((eqb status 0 || eqb status 5)
    && (is_chain (drop event_overhead bs) && is_in_segment h (start_of base (bytes_at 2 5 bs))))))

-- every piece of an event loop is an event of the section
abbrev pub are_events : ℕ → Header → List (List ℕ) → Bool
are_events base h [] = true
are_events base h (bs ∷ rest) = is_event base h bs && are_events base h rest

-- a section without events is alone in its segment (S = G = s0)
abbrev pub is_filled_or_alone : Header → List (List ℕ) → Bool
is_filled_or_alone h (bs ∷ rest) = true
is_filled_or_alone h [] =
    eqb h.section_number (first_of h.section_number)
    && eqb h.segment_last_section_number (first_of h.section_number)

-- an event follows the last one before it, so that neither starts fall nor events overlap (02, W-204), and has an id
-- that none before it has; `seen` has the latest first
abbrev pub is_new : List Event → Event → Bool
is_new [] e = true
is_new (d ∷ seen) e = follows d e && not (is_among e.id (event_ids (d ∷ seen)))

-- each of some events, one after the other
abbrev pub are_new : List Event → List Event → Bool
are_new seen [] = true
are_new seen (e ∷ es) = is_new seen e && are_new (e ∷ seen) es

-- 24: event loop breaks a rule, the limit of events aside
unfoldable pub is_event_loop : ℕ → List Event → List ℕ → Bool
is_event_loop base seen bs =
    let events = split_events bs in
    are_events base (header_in bs) events
    && (is_filled_or_alone (header_in bs) events && are_new seen (map (event_in base) events))

-- 26: event 2,049; 02, W-206: for cable event 257
unfoldable pub is_within_limit : Sizes → List Event → List ℕ → Bool
is_within_limit sizes seen bs = leb (length seen + length (split_events bs)) sizes.event_limit
