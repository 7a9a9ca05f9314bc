-- The event at the front of some bytes (01, "The file of sections"; "Build, Read": marks never have 2). Laws:
-- proofs/EventWriteLaws.antt, proofs/EventReadLaws.antt. Assumes nothing.
use Rattle.std.specs.Prelude.{ℕ, ◌/◌, Bool, ◌&&◌, ◌||◌, List, eqb, length, take, drop, Option}
use Rattle.std.specs.Bool.{then_some}
use Rattle.eit.specs.Fields.{bytes_at}
use Rattle.eit.specs.Time.{is_start_bytes, is_duration_bytes}
use Rattle.eit.specs.Chain.{is_chain}
use Rattle.eit.specs.declared.Record.{Record}
use Rattle.sections.specs.Section.{event_overhead}
use Rattle.sections.specs.Decode.{status_field, stated_event_size, event_in}
use Rattle.sections.specs.Offsets.{record_at}

-- an event's bytes are all there; start, duration and running_status are in range; its chain is one. What `is_event` of
-- sections asks besides is the segment (`event_whole`)
unfoldable pub is_whole_event : ℕ → List ℕ → Bool
is_whole_event base bs =
    let status = status_field bs / 0x2000 in
    eqb (length bs) (stated_event_size bs)
    && (is_start_bytes base (bytes_at 2 5 bs)
    && (is_duration_bytes (bytes_at 7 3 bs) && ((eqb status 0 || eqb status 5) && is_chain (drop event_overhead bs))))

-- the bytes of the event at the front of bs
abbrev pub front_event : List ℕ → List ℕ
front_event bs = take (stated_event_size bs) bs

-- the record of that event, with its chain's offset from the event's first byte
unfoldable pub event_read : ℕ → List ℕ → Option Record
event_read base bs = then_some (is_whole_event base (front_event bs)) (record_at 0 (event_in base (front_event bs)))
