-- The events of a sound list, with pools of bytes, are in range, rise, differ and are few, and their chains are chains
-- of bytes: each part of soundness, said of events. Assumes nothing.
use mathlib.Core.Path.{◌≡◌, refl, ap}
use mathlib.Core.Bool.{Bool, true, false}
use mathlib.Core.List.{List, [], ◌∷◌}
use Prim.Native.Nat.{ℕ, ◌≤◌, ◌<◌}
use lib.Dec.{T}
use lib.ListN.{length}
use Rattle.eit.specs.declared.Sizes.{Sizes}
use Rattle.eit.specs.Limits.{id_max, window_seconds, duration_min, duration_max}
use Rattle.eit.specs.Fields.{Bytes}
use Rattle.eit.specs.Chain.{is_chain}
use Rattle.eit.specs.Pools.{Pools, choose, marks_series, pool_of}
use Rattle.eit.specs.Among.{all_differ}
use Rattle.eit.specs.Records.{EventList, records_of}
use Rattle.eit.specs.Events.{Event, events_in, rising}
use Rattle.eit.specs.Sound.{all_valid, ids_of, sound, events_of}
use Rattle.eit.specs.declared.Record.{Record}
use Rattle.eit.proofs.Test.{tests}
use Rattle.eit.proofs.Pools.{part_bytes}
use Rattle.eit.proofs.Sound.{range_facts, sound_list, chain_facts, events_length}
use Rattle.sections.specs.Section.{event_ids}
use Rattle.sections.specs.Every.{Every}
use Rattle.sections.proofs.Every.{every_map}

-- an event in a record's range, with a chain of bytes
pub record EventFacts (e : Event) : Type 0 where
  pub id : e.id ≤ id_max
  pub start : e.start < window_seconds
  pub duration_low : duration_min ≤ e.duration
  pub duration_high : e.duration ≤ duration_max
  pub bytes : Bytes e.chain
  pub chain : T (is_chain e.chain)

-- the events start one after the other, and within the window
pub record SoundStarts (es : List Event) : Type 0 where
  pub rises : T (rising es)
  pub starts : Every (λ (e : Event). e.start < window_seconds) es

-- what soundness says of the events of a list
pub record SoundEvents (sizes : Sizes) (es : List Event) : Type 0 where
  pub facts : Every EventFacts es
  pub rises : T (rising es)
  pub differ : T (all_differ (event_ids es))
  pub few : length es ≤ sizes.event_limit

pub starts_of : (sizes : Sizes) (es : List Event) → SoundEvents sizes es → SoundStarts es
starts_of sizes es facts =
    record { rises = facts.rises; starts = every_map (λ (e : Event) (f : EventFacts e). f.start) es facts.facts }

valid_starts : (pools : Pools) (rs : List Record) → T (all_valid pools rs)
    → Every (λ (e : Event). e.start < window_seconds) (events_in pools rs)
valid_starts pools [] valid = tt
valid_starts pools (r ∷ rs) valid = ((range_facts r (search tests)).start, valid_starts pools rs (search tests))

-- for these the pools need not be of bytes
pub sound_starts : (sizes : Sizes) (pools : Pools) (list : EventList) → T (sound sizes pools list)
    → SoundStarts (events_of pools list)
unfolding events_of
sound_starts sizes pools list t =
    let facts = sound_list sizes pools list t in
    record { rises = facts.records.rises; starts = valid_starts pools (records_of list) facts.records.valid }

module _ (pools : Pools) (day : Bytes pools.day) (series : Bytes pools.series) where
  pool_bytes : (marks : ℕ) → Bytes (pool_of pools marks)
  pool_bytes marks = by_pool (marks_series marks)
    where
      by_pool : (b : Bool) → Bytes (elim b [ true ↦ pools.series | false ↦ pools.day ])
      by_pool true = series
      by_pool false = day

  choose_bytes : (marks offset size : ℕ) → Bytes (choose pools marks offset size)
  unfolding choose
  choose_bytes marks offset size = part_bytes (pool_of pools marks) offset size (pool_bytes marks)

  valid_facts : (rs : List Record) → T (all_valid pools rs) → Every EventFacts (events_in pools rs)
  valid_facts [] valid = tt
  valid_facts (r ∷ rs) valid =
      let range = range_facts r (search tests) in
      let (inside, chain) = chain_facts pools r (search tests) in (
        record {
          id = range.id;
          start = range.start;
          duration_low = range.duration_low;
          duration_high = range.duration_high;
          bytes = choose_bytes r.marks r.offset r.chain_length;
          chain = chain;
        },
        valid_facts rs (search tests),
      )

  ids_same : (rs : List Record) → event_ids (events_in pools rs) ≡ ids_of rs
  ids_same [] = refl
  ids_same (r ∷ rs) = ap (λ (ns : List ℕ). r.id ∷ ns) (ids_same rs)

  pub sound_events : (sizes : Sizes) (list : EventList) → T (sound sizes pools list)
      → SoundEvents sizes (events_of pools list)
  unfolding events_of
  sound_events sizes list t =
      let facts = sound_list sizes pools list t in
      record {
        facts = valid_facts (records_of list) facts.records.valid;
        rises = facts.records.rises;
        differ = rw (ids_same (records_of list)) facts.records.differ;
        few = rw (events_length pools list) facts.few;
      }
