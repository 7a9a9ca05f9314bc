-- Soundness of a list, total in every buffer, count and pools, and the events that a list stands for (01, "Event record
-- and sound list"). Laws: proofs/Sound.antt. Assumes nothing.
use Rattle.std.specs.Prelude.{ℕ, ◌*◌, Bool, true, ◌&&◌, List, [], ◌∷◌, map, leb, ltb, length}
use Rattle.eit.specs.declared.Sizes.{Sizes}
use Rattle.eit.specs.Limits.{id_max, window_seconds, duration_min, duration_max, marks_max}
use Rattle.eit.specs.Among.{all_differ}
use Rattle.eit.specs.Chain.{is_chain}
use Rattle.eit.specs.Pools.{Pools, pool_of, in_pool, choose}
use Rattle.eit.specs.Records.{EventList, record_size, records_of}
use Rattle.eit.specs.Events.{Event, events_in, rising}
use Rattle.eit.specs.declared.Record.{Record}

-- values are in range
abbrev pub in_range : Record → Bool
in_range r =
    leb r.id id_max
    && (ltb r.start window_seconds
    && (leb duration_min r.duration && (leb r.duration duration_max && leb r.marks marks_max)))

-- each part lies in its pool and is a chain
abbrev pub has_chain : Pools → Record → Bool
has_chain pools r =
    in_pool (pool_of pools r.marks) r.offset r.chain_length
    && is_chain (choose pools r.marks r.offset r.chain_length)

-- every record is so
abbrev pub all_valid : Pools → List Record → Bool
all_valid pools [] = true
all_valid pools (r ∷ rs) = in_range r && has_chain pools r && all_valid pools rs

-- the ids and the starts of some records
abbrev pub ids_of : List Record → List ℕ
ids_of rs = map (λ (r : Record). r.id) rs

abbrev pub starts_of : List Record → List ℕ
starts_of rs = map (λ (r : Record). r.start) rs

-- what soundness asks of the records: values in range, parts and chains, starts rise strictly, ids differ, and (02,
-- W-204) each event's start + duration is at most the next event's start
unfoldable pub sound_records : Pools → List Record → Bool
sound_records pools rs = all_valid pools rs && (rising (events_in pools rs) && all_differ (ids_of rs))

-- 01's term: sound. The count is at most 2,048 (02, W-206: for cable 12 uses 256), the buffer has at least 6 × count
-- numbers, and the records are as above
unfoldable pub sound : Sizes → Pools → EventList → Bool
unfolding sound_records
sound sizes pools list =
    leb list.count sizes.event_limit
    && (leb (list.count * record_size) (length list.buffer) && sound_records pools (records_of list))

-- the events that a sound list stands for, in its order
unfoldable pub events_of : Pools → EventList → List Event
events_of pools list = events_in pools (records_of list)
