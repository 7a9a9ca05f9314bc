-- Which segments Build's file has: a table's last segment is in the table, and no event is behind it or behind the last
-- table. By induction over the events. Assumes nothing.
use mathlib.Core.Path.{◌≡◌, refl, sym, ap}
use mathlib.Core.Logic.{◌⊎◌, inl, inr, ⊎_elim}
use mathlib.Core.List.{List, [], ◌∷◌}
use Prim.Native.Nat.{ℕ, suc, ◌*◌, ◌/◌, ◌≤◌, ◌<◌}
use native.Mathlib.Omega.{arith}
use borrow.Author.Tests.{eq-eqb, ne_eqb}
use lib.Dec.{T, leb, leb→le, le→leb}
use lib.ListN.{length}
use Rattle.eit.specs.Limits.{window_seconds}
use Rattle.eit.specs.Events.{Event, rising}
use Rattle.eit.proofs.Test.{and_both, and_parts, eq_or_not}
use Rattle.eit.proofs.Events.{AllFollow, rising_rest, rising_after, rising_follow, follow_rising}
use Rattle.sections.specs.Segment.{segment_index}
use Rattle.sections.specs.Every.{Every}
use Rattle.sections.specs.Count.{segment_events}
use Rattle.sections.proofs.Every.{every_map}
use Rattle.sections.proofs.Count.{events_more, events_same, events_cases}
use Rattle.schedule.specs.Extent.{last_index, table_events, last_table, last_segment, is_inside}

abbrev pub start_index : Event → ℕ
start_index e = segment_index e.start

-- what holds of every event's index and of the one for none holds of the last
last_has : (P : ℕ → Type 0) (index : ℕ) (es : List Event) → P index → Every (λ (e : Event). P (start_index e)) es
    → P (last_index index es)
last_has P index [] here all = here
last_has P index (e ∷ es) here all = last_has P (start_index e) es all.0 all.1

-- the events of a table, of a list with one more in front
table_cases : (table : ℕ) (e : Event) (es : List Event) (P : List Event → Type 0)
    → (start_index e / 32 ≡ table → P (e ∷ table_events table es))
    → ((start_index e / 32 ≡ table → ⊥) → P (table_events table es))
    → P (table_events table (e ∷ es))
table_cases table e es P more same =
    ⊎_elim (λ here. rw (table_events, eq-eqb (start_index e / 32) table here) (more here))
    (λ elsewhere. rw (table_events, ne_eqb (start_index e / 32) table elsewhere) (same elsewhere))
    (eq_or_not (start_index e / 32) table)

-- every event of a table is in it
table_has : (table : ℕ) (es : List Event) → Every (λ (e : Event). start_index e / 32 ≡ table) (table_events table es)
table_has table [] = tt
table_has table (e ∷ es) =
    table_cases table e es (Every (λ (f : Event). start_index f / 32 ≡ table)) (λ here. (here, table_has table es))
    (λ elsewhere. table_has table es)

-- a table's last segment is in the table
pub segment_in_table : (es : List Event) (table : ℕ) → last_segment es table / 32 ≡ table
segment_in_table es table =
    last_has (λ (i : ℕ). i / 32 ≡ table) (table * 32) (table_events table es) (omega arith) (table_has table es)

-- there are at most sixteen tables
pub tables_few : (es : List Event) → Every (λ (e : Event). e.start < window_seconds) es → last_table es < 16
tables_few es starts =
    let few : last_index 0 es < 512 =
    last_has (λ (i : ℕ). i < 512) 0 es (omega arith)
    (every_map (λ (e : Event) (h : e.start < window_seconds). omega arith) es starts) in
    omega arith

-- ---- no event is behind the last one

last_after : (e : Event) (es : List Event) → T (rising (e ∷ es)) → start_index e ≤ last_index (start_index e) es
last_after e [] rises = omega arith
last_after e (f ∷ es) rises =
    omega (arith, (rising_after e (f ∷ es) rises).0, last_after f es (rising_rest e (f ∷ es) rises))

pub last_most : (index : ℕ) (es : List Event) → T (rising es)
    → Every (λ (e : Event). start_index e ≤ last_index index es) es
last_most index [] rises = tt
last_most index (e ∷ es) rises = (last_after e es rises, last_most (start_index e) es (rising_rest e es rises))

table_follow : (table : ℕ) (d : Event) (es : List Event) → AllFollow d es → AllFollow d (table_events table es)
table_follow table d [] all = tt
table_follow table d (e ∷ es) all =
    let rest : AllFollow d (table_events table es) = table_follow table d es all.1 in
    table_cases table e es (AllFollow d) (λ here. (all.0, rest)) (λ elsewhere. rest)

table_rises : (table : ℕ) (es : List Event) → T (rising es) → T (rising (table_events table es))
table_rises table [] rises = tt
table_rises table (e ∷ es) rises =
    let rest : T (rising (table_events table es)) = table_rises table es (rising_rest e es rises) in
    let all : AllFollow e (table_events table es) = table_follow table e es (rising_follow e es rises) in
    table_cases table e es (λ (fs : List Event). T (rising fs))
    (λ here. follow_rising e (table_events table es) all rest) (λ elsewhere. rest)

-- what holds of a table's events holds of all events, as far as they are in the table
table_only : (P : Event → Type 0) (table : ℕ) (es : List Event) → Every P (table_events table es)
    → Every (λ (e : Event). start_index e / 32 ≡ table → P e) es
table_only P table [] = λ all. tt
table_only P table (e ∷ es) =
    let Only : Event → Type 0 = λ (f : Event). start_index f / 32 ≡ table → P f in
    table_cases table e es (λ (fs : List Event). Every P fs → Every Only (e ∷ es))
    (λ here all. (λ again. all.0, table_only P table es all.1))
    (λ elsewhere all. (λ here. absurd (elsewhere here), table_only P table es all))

-- nor behind its table's last segment
pub segment_most : (table : ℕ) (es : List Event) → T (rising es)
    → Every (λ (e : Event). start_index e / 32 ≡ table → start_index e ≤ last_segment es table) es
segment_most table es rises =
    table_only (λ (e : Event). start_index e ≤ last_segment es table) table es
    (last_most (table * 32) (table_events table es) (table_rises table es rises))

-- ---- the last segment has events

-- a list has events in a segment if its first is there, or if the rest has
module _ (index : ℕ) (e : Event) (es : List Event) where
  abbrev Some : List Event → Type 0
  Some fs = 0 < length fs

  held_here : start_index e ≡ index → Some (segment_events index (e ∷ es))
  held_here here = rw (events_more index e es here) (omega arith)

  held_later : Some (segment_events index es) → Some (segment_events index (e ∷ es))
  held_later held = events_cases index e es Some (λ here. omega arith) (λ elsewhere. held)

-- the last event's segment has it, or there is none
last_held : (index : ℕ) (es : List Event)
    → (last_index index es ≡ index) ⊎ (0 < length (segment_events (last_index index es) es))
last_held index [] = inl refl
last_held index (e ∷ es) =
    let last : ℕ = last_index (start_index e) es in
    inr (⊎_elim (λ same. held_here last e es (sym same)) (λ held. held_later last e es held)
    (last_held (start_index e) es))

-- a table's events in a segment are among all
table_holds : (table index : ℕ) (es : List Event)
    → length (segment_events index (table_events table es)) ≤ length (segment_events index es)
table_holds table index [] = omega arith
table_holds table index (e ∷ es) =
    let rest : length (segment_events index (table_events table es)) ≤ length (segment_events index es) =
    table_holds table index es in
    events_cases index e es (λ (fs : List Event). length (segment_events index (table_events table (e ∷ es))) ≤ length fs)
    (λ here. table_cases table e es
    (λ (fs : List Event). length (segment_events index fs) ≤ suc (length (segment_events index es)))
    (λ inside. omega (arith, ap length (events_more index e (table_events table es) here)))
    (λ outside. omega arith))
    (λ elsewhere. table_cases table e es
    (λ (fs : List Event). length (segment_events index fs) ≤ length (segment_events index es))
    (λ inside. omega (arith, ap length (events_same index e (table_events table es) elsewhere)))
    (λ outside. rest))

-- a table ends with a segment that has events, or with its first
pub segment_held_holds : (es : List Event) (table : ℕ)
    → (last_segment es table ≡ table * 32) ⊎ (0 < length (segment_events (last_segment es table) es))
segment_held_holds es table =
    ⊎_elim (λ same. inl same) (λ held. inr (omega (arith, table_holds table (last_segment es table) es)))
    (last_held (table * 32) (table_events table es))

-- the last table has events, or it is 0x50
pub table_held_holds : (es : List Event) → (last_index 0 es ≡ 0) ⊎ (0 < length (segment_events (last_index 0 es) es))
table_held_holds es = last_held 0 es

-- ---- inside the range

module _ (es : List Event) (index : ℕ) where
  pub is_inside_holds : index / 32 ≤ last_table es → index ≤ last_segment es (index / 32) → T (is_inside es index)
  is_inside_holds table segment =
      and_both (leb (index / 32) (last_table es)) (leb index (last_segment es (index / 32)))
      (le→leb (index / 32) (last_table es) table) (le→leb index (last_segment es (index / 32)) segment)

  pub inside_is : T (is_inside es index) → (index / 32 ≤ last_table es) × (index ≤ last_segment es (index / 32))
  inside_is inside =
      let (table, segment) =
      and_parts (leb (index / 32) (last_table es)) (leb index (last_segment es (index / 32))) inside in
      (leb→le (index / 32) (last_table es) table, leb→le index (last_segment es (index / 32)) segment)

-- an event that starts in the segment, with what holds of every event
held_has : (P : Event → Type 0) (index : ℕ) (es : List Event) → Every P es → 0 < length (segment_events index es)
    → (e : Event) × (start_index e ≡ index) × P e
held_has P index [] all = λ held. absurd (omega arith)
held_has P index (e ∷ es) all =
    let Has : Type 0 = (f : Event) × (start_index f ≡ index) × P f in
    events_cases index e es (λ (fs : List Event). 0 < length fs → Has)
    (λ here held. (e, here, all.0))
    (λ elsewhere held. held_has P index es all.1 held)

-- a segment that has events is inside
pub held_inside : (index : ℕ) (es : List Event) → T (rising es) → 0 < length (segment_events index es)
    → T (is_inside es index)
held_inside index es rises held =
    let (e, here, early) =
    held_has (λ (e : Event). start_index e ≤ last_index 0 es) index es (last_most 0 es rises) held in
    let (f, there, within) =
    held_has (λ (e : Event). start_index e / 32 ≡ index / 32 → start_index e ≤ last_segment es (index / 32)) index es
    (segment_most (index / 32) es rises) held in
    is_inside_holds es index (omega arith) (omega (arith, within (ap (λ (i : ℕ). i / 32) there)))
