-- What soundness says, part by part, and from its parts back: by the laws of conjunction. Assumes nothing.
use mathlib.Core.Path.{◌≡◌, refl, ◌∙◌}
use Prim.Native.Nat.{ℕ, zero, suc, ◌+◌, ◌*◌, ◌≤◌, ◌<◌}
use native.Mathlib.Omega.{arith}
use mathlib.Core.List.{List, [], ◌∷◌, ◌++◌}
use lib.Dec.{T, leb→le, le→leb, ltb→lt}
use lib.ListN.{length, get_or, length-map}
use Rattle.eit.specs.declared.Sizes.{Sizes}
use Rattle.eit.specs.Limits.{id_max, window_seconds, duration_min, duration_max, marks_max}
use Rattle.eit.specs.Chain.{is_chain}
use Rattle.eit.specs.Pools.{Pools, pool_of, choose}
use Rattle.eit.specs.Records.{EventList, record_size, records_of}
use Rattle.eit.specs.Events.{event_of, events_in, rising}
use Rattle.eit.specs.Among.{all_differ}
use Rattle.eit.specs.Sound.{in_range, has_chain, all_valid, ids_of, sound_records, sound, events_of}
use Rattle.eit.specs.declared.Record.{Record}
use Rattle.eit.proofs.Test.{tests}
use Rattle.eit.proofs.Records.{count_records}

-- values in range, one by one
pub record RangeFacts (r : Record) : Type 0 where
  pub id : r.id ≤ id_max
  pub start : r.start < window_seconds
  pub duration_low : duration_min ≤ r.duration
  pub duration_high : r.duration ≤ duration_max
  pub marks : r.marks ≤ marks_max

pub range_facts : (r : Record) → T (in_range r) → RangeFacts r
range_facts r t =
    record {
      id = leb→le r.id id_max (search tests);
      start = ltb→lt r.start window_seconds (search tests);
      duration_low = leb→le duration_min r.duration (search tests);
      duration_high = leb→le r.duration duration_max (search tests);
      marks = leb→le r.marks marks_max (search tests);
    }

pub facts_range : (r : Record) → RangeFacts r → T (in_range r)
facts_range r f = search (tests, le→leb)

-- what soundness asks of the records
pub record RecordFacts (pools : Pools) (rs : List Record) : Type 0 where
  pub valid : T (all_valid pools rs)
  pub rises : T (rising (events_in pools rs))
  pub differ : T (all_differ (ids_of rs))

pub records_sound : (pools : Pools) (rs : List Record) → RecordFacts pools rs → T (sound_records pools rs)
unfolding sound_records
records_sound pools rs f = search tests

pub sound_records_holds : (pools : Pools) (rs : List Record) → T (sound_records pools rs) → RecordFacts pools rs
unfolding sound_records
sound_records_holds pools rs t =
    record { valid = search tests; rises = search tests; differ = search tests }

-- what soundness asks of a list
pub record ListFacts (sizes : Sizes) (pools : Pools) (list : EventList) : Type 0 where
  pub few : list.count ≤ sizes.event_limit
  pub held : list.count * record_size ≤ length list.buffer
  pub records : RecordFacts pools (records_of list)

module _ (sizes : Sizes) (pools : Pools) (list : EventList) where
  pub list_sound : ListFacts sizes pools list → T (sound sizes pools list)
  unfolding sound
  list_sound f = search (tests, le→leb, records_sound)

  pub sound_list : T (sound sizes pools list) → ListFacts sizes pools list
  unfolding sound
  sound_list t =
      record {
        few = leb→le list.count sizes.event_limit (search tests);
        held = leb→le (list.count * record_size) (length list.buffer) (search tests);
        records = sound_records_holds pools (records_of list) (search tests);
      }

-- `all_valid` means every record: in range, and with a chain
pub valid_at : (pools : Pools) (rs : List Record) → T (all_valid pools rs) → (i : ℕ) (d : Record) → i < length rs
    → T (in_range (get_or rs i d)) × T (has_chain pools (get_or rs i d))
valid_at pools [] t i d h = absurd (omega arith)
valid_at pools (r ∷ rs) t zero d h = (search tests, search tests)
valid_at pools (r ∷ rs) t (suc i) d h = valid_at pools rs (search tests) i d (omega arith)

pub valid_all : (pools : Pools) (rs : List Record) (d : Record)
    → ((i : ℕ) → i < length rs → T (in_range (get_or rs i d)) × T (has_chain pools (get_or rs i d))) → T (all_valid pools rs)
valid_all pools [] d h = tt
valid_all pools (r ∷ rs) d h =
    let first = h 0 (omega arith) in
    let rest : T (all_valid pools rs) = valid_all pools rs d (λ i l. h (suc i) (omega arith)) in
    search (tests, first.0, first.1)

-- records in two parts
pub valid_append : (pools : Pools) (rs qs : List Record) → T (all_valid pools rs) → T (all_valid pools qs)
    → T (all_valid pools (rs ++ qs))
valid_append pools [] qs v w = w
valid_append pools (r ∷ rs) qs v w = let rest = valid_append pools rs qs (search tests) w in search tests

-- `has_chain`: offset + length at most the pool's, and the part is a chain, of any length
pub chain_facts : (pools : Pools) (r : Record) → T (has_chain pools r)
    → (r.offset + r.chain_length ≤ length (pool_of pools r.marks))
    × T (is_chain (choose pools r.marks r.offset r.chain_length))
chain_facts pools r t =
    (leb→le (r.offset + r.chain_length) (length (pool_of pools r.marks)) (search tests), search tests)

pub facts_chain : (pools : Pools) (r : Record) → r.offset + r.chain_length ≤ length (pool_of pools r.marks)
    → T (is_chain (choose pools r.marks r.offset r.chain_length)) → T (has_chain pools r)
facts_chain pools r inside chain = search (tests, le→leb)

-- ---- the events of a list

pub events_length : (pools : Pools) (list : EventList) → length (events_of pools list) ≡ list.count
unfolding events_of
events_length pools list = length-map (records_of list) (event_of pools) ∙ count_records list

-- those of a sound list rise
pub events_rise : (sizes : Sizes) (pools : Pools) (list : EventList) → T (sound sizes pools list)
    → T (rising (events_of pools list))
unfolding events_of
events_rise sizes pools list t = (sound_list sizes pools list t).records.rises
