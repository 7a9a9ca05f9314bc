-- The events of a segment after a roll are those of the segment eight indexes later, a day earlier: they are packed
-- alike, and under the next base day they have the same bytes. Assumes nothing.
use mathlib.Core.Path.{◌≡◌, refl, sym, ap, ap₂, ◌∙◌}
use mathlib.Core.Bool.{not}
use mathlib.Core.List.{List, [], ◌∷◌, ◌++◌, map}
use Prim.Native.Nat.{ℕ, zero, suc, ◌+◌, ◌-◌, ◌/◌, ◌%◌, ◌≤◌}
use native.Mathlib.Omega.{arith}
use lib.Dec.{T}
use lib.ListN.{get_or}
use Rattle.eit.specs.Sizes.{room}
use Rattle.eit.specs.declared.Sizes.{Sizes}
use Rattle.eit.specs.Fields.{big_endian}
use Rattle.eit.specs.Time.{seconds_of_day, start_bytes, time_bytes, time_of, duration_bytes}
use Rattle.eit.specs.Pools.{Pools}
use Rattle.eit.specs.Events.{Event, event_of, events_in}
use Rattle.eit.specs.declared.Record.{Record}
use Rattle.packing.specs.Greedy.{unpackable}
use Rattle.packing.proofs.Map.{unpackable_map, greedy_map}
use Rattle.sections.specs.Every.{Every}
use Rattle.sections.specs.Section.{event_size}
use Rattle.sections.specs.Encode.{status_word, event_bytes, event_loop_bytes}
use Rattle.sections.specs.Count.{segment_events}
use Rattle.sections.proofs.RowBytes.{loop_none, loop_more}
use Rattle.sections.proofs.Count.{events_more, events_same, events_cases}
use Rattle.schedule.specs.SectionsOf.{is_unpackable, packed, packed_segment}
use Rattle.schedule.proofs.Parts.{every_joined, parts_events}
use Rattle.window.specs.Roll.{counted_from}
use Rattle.window.proofs.Records.{counted_cases}

-- an event a day earlier
abbrev earlier : Event → Event
earlier e =
    record {
      id = e.id;
      start = e.start - seconds_of_day;
      duration = e.duration;
      off_air = e.off_air;
      free_ca = e.free_ca;
      chain = e.chain;
    }

-- one that starts on the second day or later
abbrev Later : Event → Type 0
Later e = seconds_of_day ≤ e.start

-- ---- segments

-- a day has eight segments
segment_earlier : (pools : Pools) (index : ℕ) (rs : List Record)
    → segment_events index (events_in pools (counted_from seconds_of_day rs))
    ≡ map earlier (segment_events (index + 8) (events_in pools rs))
segment_earlier pools index [] = refl
segment_earlier pools index (r ∷ rs) =
    let e : Event = event_of pools r in
    let es : List Event = events_in pools rs in
    let fs : List Event = events_in pools (counted_from seconds_of_day rs) in
    let rest : segment_events index fs ≡ map earlier (segment_events (index + 8) es) = segment_earlier pools index rs in
    counted_cases seconds_of_day r rs
    (λ (qs : List Record). segment_events index (events_in pools qs) ≡ map earlier (segment_events (index + 8) (e ∷ es)))
    (λ late. events_cases (index + 8) e es
    (λ (ds : List Event). segment_events index (earlier e ∷ fs) ≡ map earlier ds)
    (λ here. events_more index (earlier e) fs (omega arith) ∙ ap (λ (ds : List Event). earlier e ∷ ds) rest)
    (λ elsewhere. events_same index (earlier e) fs (λ here. elsewhere (omega arith)) ∙ rest))
    (λ early. rest ∙ ap (map earlier) (sym (events_same (index + 8) e es (λ here. omega arith))))

segment_later : (index : ℕ) (es : List Event) → Every Later (segment_events (index + 8) es)
segment_later index [] = tt
segment_later index (e ∷ es) =
    events_cases (index + 8) e es (Every Later) (λ here. (omega arith, segment_later index es))
    (λ elsewhere. segment_later index es)

-- ---- packing

packed_earlier : (bytes : ℕ) (es : List Event) → packed bytes (map earlier es) ≡ map (map earlier) (packed bytes es)
unfolding packed
packed_earlier bytes [] = refl
packed_earlier bytes (e ∷ es) = greedy_map earlier event_size event_size (λ f. refl) bytes 8 (e ∷ es)

module _ (sizes : Sizes) (pools : Pools) (rs : List Record) (index : ℕ) where
  abbrev before : List Event
  before = events_in pools rs

  abbrev after : List Event
  after = events_in pools (counted_from seconds_of_day rs)

  pub unpackable_earlier : is_unpackable sizes after index ≡ is_unpackable sizes before (index + 8)
  unfolding is_unpackable
  unpackable_earlier =
      ap (unpackable event_size (room sizes) 8) (segment_earlier pools index rs)
      ∙ unpackable_map earlier event_size event_size (λ e. refl) (room sizes) 8 (segment_events (index + 8) before)

  parts_earlier : packed_segment sizes after index ≡ map (map earlier) (packed_segment sizes before (index + 8))
  unfolding packed_segment
  parts_earlier =
      ap (packed (room sizes)) (segment_earlier pools index rs)
      ∙ packed_earlier (room sizes) (segment_events (index + 8) before)

  -- the parts of a segment on the second day or later
  parts_later : T (not (is_unpackable sizes before (index + 8)))
      → Every (Every Later) (packed_segment sizes before (index + 8))
  parts_later fits =
      every_joined Later (packed_segment sizes before (index + 8))
      (rw (parts_events sizes before (index + 8) fits) (segment_later index before))

-- ---- bytes

start_earlier : (base start : ℕ) → seconds_of_day ≤ start
    → start_bytes (base + 1) (start - seconds_of_day) ≡ start_bytes base start
start_earlier base start late =
    let day : base + 1 + (start - seconds_of_day) / seconds_of_day ≡ base + start / seconds_of_day = omega arith in
    let time : (start - seconds_of_day) % seconds_of_day ≡ start % seconds_of_day = omega arith in
    ap₂ (λ (d t : ℕ). big_endian 2 d ++ time_bytes (time_of t)) day time

event_earlier : (base : ℕ) (e : Event) → Later e → event_bytes (base + 1) (earlier e) ≡ event_bytes base e
unfolding event_bytes
event_earlier base e late =
    ap (λ (bs : List ℕ). big_endian 2 e.id ++ bs ++ duration_bytes e.duration ++ big_endian 2 (status_word e)
    ++ e.chain)
    (start_earlier base e.start late)

loop_earlier : (base : ℕ) (es : List Event) → Every Later es
    → event_loop_bytes (base + 1) (map earlier es) ≡ event_loop_bytes base es
loop_earlier base [] later = loop_none (base + 1) ∙ sym (loop_none base)
loop_earlier base (e ∷ es) later =
    loop_more (base + 1) (earlier e) (map earlier es)
    ∙ ap₂ (λ (bs cs : List ℕ). bs ++ cs) (event_earlier base e later.0) (loop_earlier base es later.1)
    ∙ sym (loop_more base e es)

part_at : (k : ℕ) (ps : List (List Event)) → get_or (map (map earlier) ps) k [] ≡ map earlier (get_or ps k [])
part_at k [] = refl
part_at zero (p ∷ ps) = refl
part_at (suc k) (p ∷ ps) = part_at k ps

later_at : (k : ℕ) (ps : List (List Event)) → Every (Every Later) ps → Every Later (get_or ps k [])
later_at k [] later = tt
later_at zero (p ∷ ps) later = later.0
later_at (suc k) (p ∷ ps) later = later_at k ps later.1

-- the bytes of the k-th part
pub part_bytes_earlier : (sizes : Sizes) (pools : Pools) (rs : List Record) (base index k : ℕ)
    → T (not (is_unpackable sizes (events_in pools rs) (index + 8)))
    → event_loop_bytes (base + 1)
    (get_or (packed_segment sizes (events_in pools (counted_from seconds_of_day rs)) index) k [])
    ≡ event_loop_bytes base (get_or (packed_segment sizes (events_in pools rs) (index + 8)) k [])
part_bytes_earlier sizes pools rs base index k fits =
    let ps : List (List Event) = packed_segment sizes (events_in pools rs) (index + 8) in
    ap (λ (qs : List (List Event)). event_loop_bytes (base + 1) (get_or qs k [])) (parts_earlier sizes pools rs index)
    ∙ ap (event_loop_bytes (base + 1)) (part_at k ps)
    ∙ loop_earlier base (get_or ps k []) (later_at k ps (parts_later sizes pools rs index fits))
