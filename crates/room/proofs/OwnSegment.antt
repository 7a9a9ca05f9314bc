-- In a list that rises, the answer goes by the starts and the chain lengths of the segment's events: these and one
-- more, in order, are the segment of the list with it (`segment_inserted`). By induction over the events. Assumes
-- nothing.
use mathlib.Core.Path.{◌≡◌, refl, sym, ap, ap₂, ◌∙◌}
use mathlib.Core.Bool.{Bool, true, false, not, ◌||◌}
use mathlib.Core.Logic.{⊎_elim}
use mathlib.Core.List.{List, [], ◌∷◌, map}
use Prim.Native.Nat.{ℕ, ◌+◌, ◌<◌}
use native.Mathlib.Omega.{arith}
use borrow.Author.Tests.{ne_eqb}
use lib.Dec.{T, ltb, eqb, ltb→lt, lt→ltb}
use lib.ListN.{take, drop, length-replicate}
use Rattle.std.specs.Prelude.{Option, Some, None, is_some}
use Rattle.eit.specs.Sizes.{room}
use Rattle.eit.specs.declared.Sizes.{Sizes}
use Rattle.eit.specs.Limits.{window_seconds}
use Rattle.eit.specs.Among.{is_among}
use Rattle.eit.specs.Events.{Event, rising}
use Rattle.eit.proofs.Test.{true_is, false_is, test_or}
use Rattle.eit.proofs.Events.{AllAfter, rising_rest, rising_after}
use Rattle.packing.specs.Greedy.{unpackable}
use Rattle.packing.specs.OnePass.{begun, added_to, filled}
use Rattle.packing.proofs.Map.{unpackable_map}
use Rattle.sections.specs.Segment.{segment_index}
use Rattle.sections.specs.Section.{event_overhead, event_size}
use Rattle.sections.specs.Count.{segment_events}
use Rattle.sections.proofs.Count.{events_more, events_same, events_cases}
use Rattle.schedule.proofs.Packable.{test_is}
use Rattle.room.specs.OneMore.{inserted, event_of_length, is_taken}
use Rattle.room.specs.ChainRoom.{leaves_packable, chain_max, never_one, length_at}
use Rattle.room.specs.StillFits.{start_and_length}
use Rattle.room.proofs.OneMore.{up_to, inserted_here, inserted_later, inserted_place}
use Rattle.room.proofs.ByLength.{packable_between}
use Rattle.room.proofs.Largest.{largest_same}

-- ---- one more event among those of its segment

-- before events that all start after it
inserted_first : (e : Event) (es : List Event) → AllAfter e.start es → inserted e es ≡ e ∷ es
inserted_first e [] after = refl
inserted_first e (f ∷ es) after = inserted_here e f es (lt→ltb e.start f.start after.0)

after_more : (s t : ℕ) (es : List Event) → s < t → AllAfter t es → AllAfter s es
after_more s t [] less after = tt
after_more s t (e ∷ es) less after = (omega (arith, after.0), after_more s t es less after.1)

pub after_segment : (s index : ℕ) (es : List Event) → AllAfter s es → AllAfter s (segment_events index es)
after_segment s index [] after = tt
after_segment s index (e ∷ es) after =
    events_cases index e es (AllAfter s) (λ here. (after.0, after_segment s index es after.1))
    (λ elsewhere. after_segment s index es after.1)

pub segment_inserted : (e : Event) (es : List Event) → T (rising es)
    → let index = segment_index e.start in
    segment_events index (inserted e es) ≡ inserted e (segment_events index es)
segment_inserted e [] rises = events_more (segment_index e.start) e [] refl
segment_inserted e (f ∷ es) rises =
    let index : ℕ = segment_index e.start in
    ⊎_elim
    (λ t.
    let first : e.start < f.start = ltb→lt e.start f.start t in
    let after : AllAfter e.start (f ∷ es) =
    (first, after_more e.start f.start es first (rising_after f es rises)) in
    ap (segment_events index) (inserted_here e f es t)
    ∙ events_more index e (f ∷ es) refl
    ∙ sym (inserted_first e (segment_events index (f ∷ es)) (after_segment e.start index (f ∷ es) after)))
    (λ t.
    let rest : segment_events index (inserted e es) ≡ inserted e (segment_events index es) =
    segment_inserted e es (rising_rest f es rises) in
    ap (segment_events index) (inserted_later e f es t)
    ∙ events_cases index f (inserted e es) (λ (fs : List Event). fs ≡ inserted e (segment_events index (f ∷ es)))
    (λ here.
    ap (λ (fs : List Event). f ∷ fs) rest
    ∙ sym (inserted_later e f (segment_events index es) t)
    ∙ ap (inserted e) (sym (events_more index f es here)))
    (λ elsewhere. rest ∙ ap (inserted e) (sym (events_same index f es elsewhere))))
    (test_or (ltb e.start f.start))

-- so the pass over the segment's events tells whether they are packable with it
pub leaves_in_segment : (sizes : Sizes) (es : List Event) (start n : ℕ) → T (rising es)
    → let seg = segment_events (segment_index start) es in
    let p = up_to start seg in
    leaves_packable sizes es start n
    ≡ is_some
    (filled event_size (room sizes)
    (added_to (room sizes) (filled event_size (room sizes) (Some (begun (room sizes) 7)) (take p seg))
    (event_overhead + n))
    (drop p seg))
unfolding leaves_packable
leaves_in_segment sizes es start n rises =
    let e : Event = event_of_length start n in
    let seg : List Event = segment_events (segment_index start) es in
    let p : ℕ = up_to start seg in
    let bytes : ℕ = room sizes in
    ap not
    (test_is sizes (inserted e es) (segment_index start)
    ∙ ap (unpackable event_size bytes 8) (segment_inserted e es rises ∙ inserted_place e seg))
    ∙ packable_between bytes (take p seg) (drop p seg) e
    ∙ ap (λ (m : ℕ).
    is_some
    (filled event_size bytes
    (added_to bytes (filled event_size bytes (Some (begun bytes 7)) (take p seg)) (event_overhead + m))
    (drop p seg)))
    (length-replicate n 0)

-- ---- what counts of the segment's events

-- a start is taken by an event of its own segment
pub taken_in_segment : (start : ℕ) (es : List Event)
    → is_taken start es ≡ is_taken start (segment_events (segment_index start) es)
taken_in_segment start [] = refl
taken_in_segment start (e ∷ es) =
    let index : ℕ = segment_index start in
    events_cases index e es (λ (fs : List Event). is_taken start (e ∷ es) ≡ is_taken start fs)
    (λ here. ap (λ (b : Bool). eqb start e.start || b) (taken_in_segment start es))
    (λ elsewhere.
    ap (λ (b : Bool). b || is_taken start es)
    (ne_eqb start e.start (λ same. elsewhere (ap segment_index (sym same))))
    ∙ taken_in_segment start es)

-- the starts, and the sizes with one more among them, of events of which start and chain length are known
abbrev starts_in : List (ℕ × ℕ) → List ℕ
starts_in ps = map (λ (p : ℕ × ℕ). p.0) ps

abbrev sizes_in : List (ℕ × ℕ) → List ℕ
sizes_in ps = map (λ (p : ℕ × ℕ). event_overhead + p.1) ps

abbrev sizes_with : ℕ → ℕ → List (ℕ × ℕ) → List ℕ
sizes_with start bytes [] = bytes ∷ []
sizes_with start bytes (p ∷ ps) =
    elim (ltb start p.0) [
      | true ↦ bytes ∷ sizes_in (p ∷ ps)
      | false ↦ (event_overhead + p.1) ∷ sizes_with start bytes ps
    ]

starts_are : (es : List Event) → map (λ (e : Event). e.start) es ≡ starts_in (map start_and_length es)
starts_are [] = refl
starts_are (e ∷ es) = ap (λ (ns : List ℕ). e.start ∷ ns) (starts_are es)

sizes_are : (es : List Event) → map event_size es ≡ sizes_in (map start_and_length es)
sizes_are [] = refl
sizes_are (e ∷ es) = ap (λ (ns : List ℕ). event_size e ∷ ns) (sizes_are es)

sizes_with_holds : (e : Event) (es : List Event)
    → map event_size (inserted e es) ≡ sizes_with e.start (event_size e) (map start_and_length es)
sizes_with_holds e [] = refl
sizes_with_holds e (f ∷ es) =
    ⊎_elim
    (λ t. rw (inserted_here e f es t, sizes_with, true_is (ltb e.start f.start) t)
    (ap (λ (ns : List ℕ). event_size e ∷ ns) (sizes_are (f ∷ es))))
    (λ t. rw (inserted_later e f es t, sizes_with, false_is (ltb e.start f.start) t)
    (ap (λ (ns : List ℕ). event_size f ∷ ns) (sizes_with_holds e es)))
    (test_or (ltb e.start f.start))

-- ---- the answer

abbrev own : ℕ → ℕ
own n = n

module _ (sizes : Sizes) (start : ℕ) where
  abbrev segment : List Event → List (ℕ × ℕ)
  segment es = map start_and_length (segment_events (segment_index start) es)

  taken_by_segment : (es : List Event) → is_taken start es ≡ is_among start (starts_in (segment es))
  taken_by_segment es =
      taken_in_segment start es ∙ ap (is_among start) (starts_are (segment_events (segment_index start) es))

  leaves_by_segment : (es : List Event) → T (rising es) → (n : ℕ)
      → leaves_packable sizes es start n
      ≡ not (unpackable own (room sizes) 8 (sizes_with start (event_size (event_of_length start n)) (segment es)))
  unfolding leaves_packable
  leaves_by_segment es rises n =
      let e : Event = event_of_length start n in
      let index : ℕ = segment_index start in
      ap not
      (test_is sizes (inserted e es) index
      ∙ ap (unpackable event_size (room sizes) 8) (segment_inserted e es rises)
      ∙ sym (unpackable_map event_size event_size own (λ f. refl) (room sizes) 8 (inserted e (segment_events index es)))
      ∙ ap (unpackable own (room sizes) 8) (sizes_with_holds e (segment_events index es)))

  -- lists that rise and agree in the segment have one length
  pub length_by_segment : (es fs : List Event) → T (rising es) → T (rising fs) → segment es ≡ segment fs
      → length_at sizes es start ≡ length_at sizes fs start
  unfolding length_at
  length_by_segment es fs rises rises' same =
      ap₂
      (λ (taken : Bool) (longest : Option ℕ).
      elim taken [
        | true ↦ None
        | false ↦ elim (ltb start window_seconds) [ true ↦ never_one longest | false ↦ None ]
      ])
      (taken_by_segment es ∙ ap (λ (ps : List (ℕ × ℕ)). is_among start (starts_in ps)) same ∙ sym (taken_by_segment fs))
      (largest_same (leaves_packable sizes es start) (leaves_packable sizes fs start)
      (λ n.
      leaves_by_segment es rises n
      ∙ ap (λ (ps : List (ℕ × ℕ)).
      not (unpackable own (room sizes) 8 (sizes_with start (event_size (event_of_length start n)) ps))) same
      ∙ sym (leaves_by_segment fs rises' n))
      (chain_max sizes))
