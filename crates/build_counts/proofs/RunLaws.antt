-- A list that rises, segment by segment: the events from a segment on begin with that segment's, behind them come those
-- from the next segment on, and the first of them decides whether the segment is inside the range. By the cut of these
-- events behind the segment, and because no segment before the first of them has events. Assumes nothing.
use mathlib.Core.Path.{◌≡◌, refl, sym, ap, subst, ◌∙◌}
use mathlib.Core.Bool.{Bool, not, ◌||◌}
use mathlib.Core.Logic.{⊎_elim}
use mathlib.Core.List.{List, [], ◌∷◌, ◌++◌}
use Prim.Native.Nat.{ℕ, zero, suc, ◌+◌, ◌*◌, ◌/◌, ◌%◌, ◌≤◌, ◌<◌}
use native.Mathlib.Omega.{arith}
use borrow.Author.Tests.{eq-eqb, ne_eqb}
use lib.Dec.{T, eqb, eqb→eq, T_not}
use lib.ListN.{length, take, drop, drop_of_length-le}
use lib.Seq.{take-append_seam, drop-append_seam, drop-drop}
use Rattle.eit.specs.Events.{Event, rising}
use Rattle.eit.proofs.Test.{le_or_lt, eq_test, or_left, or_right, or_cases, both_ways}
use Rattle.sections.specs.Every.{Every}
use Rattle.sections.specs.Count.{segment_events}
use Rattle.sections.proofs.Count.{events_cases}
use Rattle.schedule.specs.Extent.{last_index, last_segment, is_inside}
use Rattle.schedule.proofs.Extent.{start_index, segment_in_table, last_most, segment_most, segment_held_holds, table_held_holds}
use Rattle.schedule.proofs.Extent.{is_inside_holds, inside_is, held_inside}
use Rattle.schedule.proofs.EventsFrom.{events_from, from_more, from_same, from_segment}
use Rattle.build_counts.specs.Between.{leading, is_next_inside}

-- ---- how many of the first events start in a segment

module _ (index : ℕ) where
  leading_more : (e : Event) (es : List Event) → start_index e ≡ index → leading index (e ∷ es) ≡ suc (leading index es)
  leading_more e es here = rw (leading, eq-eqb (start_index e) index here)

  leading_end : (e : Event) (es : List Event) → index < start_index e → leading index (e ∷ es) ≡ 0
  leading_end e es later = rw (leading, ne_eqb (start_index e) index (λ here. omega arith))

  leading_all : (ds es : List Event) → Every (λ (e : Event). start_index e ≡ index) ds
      → leading index (ds ++ es) ≡ length ds + leading index es
  leading_all [] es here = omega arith
  leading_all (d ∷ ds) es here = omega (arith, leading_more d (ds ++ es) here.0, leading_all ds es here.1)

  -- a segment's events start in it
  segment_has : (es : List Event) → Every (λ (e : Event). start_index e ≡ index) (segment_events index es)
  segment_has [] = tt
  segment_has (e ∷ es) =
      events_cases index e es (Every (λ (f : Event). start_index f ≡ index)) (λ here. (here, segment_has es))
      (λ elsewhere. segment_has es)

  -- and the events from the next segment on do not
  leading_none : (es : List Event) → leading index (events_from (suc index) es) ≡ 0
  leading_none [] = refl
  leading_none (e ∷ es) =
      ⊎_elim
      (λ behind.
      ap (leading index) (from_more (suc index) e es behind) ∙ leading_end e (events_from (suc index) es) behind)
      (λ before. ap (leading index) (from_same (suc index) e es before) ∙ leading_none es)
      (le_or_lt (suc index) (start_index e))

-- the events from a segment on are at or behind it, and they have what every event has
from_has : (P : Event → Type 0) (index : ℕ) (es : List Event) → Every P es
    → Every (λ (e : Event). (index ≤ start_index e) × P e) (events_from index es)
from_has P index [] all = tt
from_has P index (e ∷ es) all =
    let Has : List Event → Type 0 = Every (λ (f : Event). (index ≤ start_index f) × P f) in
    let rest : Has (events_from index es) = from_has P index es all.1 in
    ⊎_elim (λ behind. subst Has (sym (from_more index e es behind)) ((behind, all.0), rest))
    (λ before. subst Has (sym (from_same index e es before)) rest) (le_or_lt index (start_index e))

first_has : (P : Event → Type 0) (index : ℕ) (e : Event) (fs es : List Event) → Every P es
    → events_from index es ≡ e ∷ fs
    → (index ≤ start_index e) × P e
first_has P index e fs es all first =
    (subst (Every (λ (f : Event). (index ≤ start_index f) × P f)) first (from_has P index es all)).0

module _ (es : List Event) (rises : T (rising es)) where
  -- ---- a segment's events stand in front

  -- the first of the events from a segment on that start in it are all of them
  pub run_length : (index : ℕ) → leading index (events_from index es) ≡ length (segment_events index es)
  run_length index =
      let here : List Event = segment_events index es in
      let behind : List Event = events_from (suc index) es in
      let all : leading index (here ++ behind) ≡ length here + leading index behind =
      leading_all index here behind (segment_has index es) in
      ap (leading index) (from_segment index es rises) ∙ omega (arith, all, leading_none index es)

  -- where the events from a segment on stand at a place, its events stand there
  pub run_first : (from index : ℕ) → drop from es ≡ events_from index es
      → take (length (segment_events index es)) (drop from es) ≡ segment_events index es
  run_first from index at =
      ap (take (length (segment_events index es))) (at ∙ from_segment index es rises)
      ∙ take-append_seam (segment_events index es) (events_from (suc index) es)

  -- and behind them those from the next segment on
  pub run_next : (from index : ℕ) → drop from es ≡ events_from index es
      → drop (from + length (segment_events index es)) es ≡ events_from (suc index) es
  run_next from index at =
      sym (drop-drop (length (segment_events index es)) from es)
      ∙ ap (drop (length (segment_events index es))) (at ∙ from_segment index es rises)
      ∙ drop-append_seam (segment_events index es) (events_from (suc index) es)

  -- a segment without events takes none
  pub run_none : (index : ℕ) → segment_events index es ≡ [] → events_from (suc index) es ≡ events_from index es
  run_none index none =
      sym (from_segment index es rises ∙ ap (λ (ds : List Event). ds ++ events_from (suc index) es) none)

  -- as one outside the range
  pub outside_none : (index : ℕ) → T (not (is_inside es index)) → segment_events index es ≡ []
  outside_none index outside =
      ⊎_elim (λ few. drop_of_length-le (segment_events index es) {i = 0} few)
      (λ held. absurd (T_not (is_inside es index) outside (held_inside index es rises held)))
      (le_or_lt (length (segment_events index es)) 0)

  -- ---- no segment before the first of them has events

  none_here : (index : ℕ) (fs : List Event) → events_from index es ≡ fs → leading index fs ≡ 0
      → segment_events index es ≡ []
  none_here index fs first none =
      drop_of_length-le (segment_events index es) {i = 0}
      (omega (arith, run_length index, ap (leading index) first, none))

  module _ (index : ℕ) (fs : List Event) (first : events_from index es ≡ fs) where
    from_still : (k : ℕ) → index ≤ k → ((j : ℕ) → j < k → leading j fs ≡ 0) → events_from k es ≡ fs
    from_still zero behind later =
        let start : index ≡ 0 = omega arith in
        subst (λ (j : ℕ). events_from j es ≡ fs) start first
    from_still (suc k) behind later =
        let here : index ≡ suc k → events_from (suc k) es ≡ fs = λ e. subst (λ (j : ℕ). events_from j es ≡ fs) e first in
        ⊎_elim
        (λ within.
        let still : events_from k es ≡ fs = from_still k within (λ j before. later j (omega arith)) in
        run_none k (none_here k fs still (later k (omega arith))) ∙ still)
        (λ now. here (omega arith))
        (le_or_lt index k)

    none_before : (k : ℕ) → index ≤ k → ((j : ℕ) → j ≤ k → leading j fs ≡ 0) → segment_events k es ≡ []
    none_before k behind later =
        none_here k fs (from_still k behind (λ j before. later j (omega arith))) (later k (omega arith))

  -- ---- inside the range

  -- of the segments behind all events only the first one of all is inside
  inside_behind : (index : ℕ) → events_from index es ≡ [] → is_inside es index ≡ is_next_inside index []
  inside_behind index first =
      let none : (k : ℕ) → index ≤ k → 0 < length (segment_events k es) → ⊥ =
      λ k behind held. omega (arith, ap length (none_before index [] first k behind (λ j before. refl))) in
      let last : ℕ = last_segment es (index / 32) in
      both_ways (is_inside es index) (eqb index 0)
      (λ inside.
      let (table, segment) = inside_is es index inside in
      let opens : last ≡ index / 32 * 32 =
      ⊎_elim (λ same. same) (λ held. absurd (none last segment held)) (segment_held_holds es (index / 32)) in
      eq_test index 0
      (⊎_elim (λ same. omega arith) (λ held. absurd (none (last_index 0 es) (omega arith) held)) (table_held_holds es)))
      (λ test. let zeroth : index ≡ 0 = eqb→eq index 0 test in is_inside_holds es index (omega arith) (omega arith))

  -- a segment with e as the first event from it on is inside if it is the first of its table, or if e is in its table
  inside_before : (index : ℕ) (e : Event) (fs : List Event) → events_from index es ≡ e ∷ fs
      → is_inside es index ≡ is_next_inside index (e ∷ fs)
  inside_before index e fs first =
      let table : ℕ = index / 32 in
      let last : ℕ = last_segment es table in
      let opens : Bool = eqb (index % 32) 0 in
      let shares : Bool = eqb (start_index e / 32) table in
      let ends : last / 32 ≡ table = segment_in_table es table in
      let Early : Event → Type 0 = λ (f : Event). start_index f ≤ last_index 0 es in
      let Within : Event → Type 0 = λ (f : Event). start_index f / 32 ≡ table → start_index f ≤ last in
      let (behind, early) : (index ≤ start_index e) × Early e =
      first_has Early index e fs es (last_most 0 es rises) first in
      let within : Within e = (first_has Within index e fs es (segment_most table es rises) first).1 in
      both_ways (is_inside es index) (opens || shares)
      (λ inside.
      let segment : index ≤ last = (inside_is es index inside).1 in
      ⊎_elim
      (λ same. or_left opens shares (eq_test (index % 32) 0 (omega arith)))
      (λ held.
      let empty : last < start_index e → segment_events last es ≡ [] =
      λ later. none_before index (e ∷ fs) first last segment (λ j before. leading_end j e fs (omega arith)) in
      let reached : start_index e ≤ last =
      ⊎_elim (λ there. there) (λ later. absurd (omega (arith, ap length (empty later))))
      (le_or_lt (start_index e) last) in
      or_right opens shares (eq_test (start_index e / 32) table (omega arith)))
      (segment_held_holds es table))
      (λ next.
      is_inside_holds es index (omega arith)
      (⊎_elim
      (λ test. let start : index % 32 ≡ 0 = eqb→eq (index % 32) 0 test in omega arith)
      (λ test. omega (arith, within (eqb→eq (start_index e / 32) table test)))
      (or_cases opens shares next)))

  -- whether a segment is inside is decided by the events from it on
  inside_cases : (index : ℕ) (fs : List Event) → events_from index es ≡ fs → is_inside es index ≡ is_next_inside index fs
  inside_cases index [] first = inside_behind index first
  inside_cases index (e ∷ fs) first = inside_before index e fs first

  pub inside_next : (index : ℕ) → is_inside es index ≡ is_next_inside index (events_from index es)
  inside_next index = inside_cases index (events_from index es) refl
