-- The events of a list that rises, segment by segment and table by table, are the list: a segment's events stand before
-- those of later segments, and past each table's last segment the table has none. By induction over the events, then
-- over the rows. Assumes nothing.
use mathlib.Core.Path.{◌≡◌, refl, sym, ap, ap₂, ◌∙◌}
use mathlib.Core.Bool.{true, false}
use mathlib.Core.Logic.{⊎_elim}
use mathlib.Core.List.{List, [], ◌∷◌, ◌++◌, flatten, append-nil}
use Prim.Native.Nat.{ℕ, suc, ◌+◌, ◌-◌, ◌*◌, ◌/◌, ◌≤◌, ◌<◌}
use native.Mathlib.Omega.{arith}
use borrow.Author.Tests.{le-leb, lt-leb}
use lib.Dec.{T, leb}
use Rattle.eit.specs.Events.{Event, rising}
use Rattle.eit.proofs.Test.{le_or_lt}
use Rattle.eit.proofs.Events.{AllAfter, rising_rest, rising_after}
use Rattle.sections.specs.Every.{Every}
use Rattle.sections.specs.Count.{segment_events}
use Rattle.sections.proofs.Every.{every_map}
use Rattle.sections.proofs.Count.{events_more, events_same}
use Rattle.sections.specs.Each.{each}
use Rattle.schedule.specs.Extent.{table_segments, last_index, last_table, last_segment}
use Rattle.sections.proofs.Each.{joined_split}
use Rattle.schedule.proofs.Extent.{start_index, segment_in_table, last_most, segment_most}

-- the events that start in a segment or in a later one
abbrev pub events_from : ℕ → List Event → List Event
events_from least [] = []
events_from least (e ∷ es) =
    elim (leb least (start_index e)) [ true ↦ e ∷ events_from least es | false ↦ events_from least es ]

module _ (least : ℕ) (e : Event) (es : List Event) where
  pub from_more : least ≤ start_index e → events_from least (e ∷ es) ≡ e ∷ events_from least es
  from_more behind = rw (events_from, le-leb least (start_index e) behind)

  pub from_same : start_index e < least → events_from least (e ∷ es) ≡ events_from least es
  from_same before = rw (events_from, lt-leb least (start_index e) before)

pub from_all : (es : List Event) → events_from 0 es ≡ es
from_all [] = refl
from_all (e ∷ es) = from_more 0 e es (omega arith) ∙ ap (λ (fs : List Event). e ∷ fs) (from_all es)

pub from_none : (least : ℕ) (es : List Event) → Every (λ (e : Event). start_index e < least) es
    → events_from least es ≡ []
from_none least [] before = refl
from_none least (e ∷ es) before = from_same least e es before.0 ∙ from_none least es before.1

-- where none is between two segments
from_skip : (a b : ℕ) (es : List Event) → a ≤ b → Every (λ (e : Event). a ≤ start_index e → b ≤ start_index e) es
    → events_from a es ≡ events_from b es
from_skip a b [] early skipped = refl
from_skip a b (e ∷ es) early skipped =
    let rest : events_from a es ≡ events_from b es = from_skip a b es early skipped.1 in
    ⊎_elim
    (λ behind. from_more a e es behind ∙ ap (λ (fs : List Event). e ∷ fs) rest
    ∙ sym (from_more b e es (skipped.0 behind)))
    (λ before. from_same a e es before ∙ rest ∙ sym (from_same b e es (omega arith)))
    (le_or_lt a (start_index e))

none_held : (index s : ℕ) (es : List Event) → index < s / 10_800 → AllAfter s es → segment_events index es ≡ []
none_held index s [] later after = refl
none_held index s (e ∷ es) later after =
    events_same index e es (λ here. omega (arith, after.0)) ∙ none_held index s es later after.1

-- in a list that rises a segment's events stand before those of later segments
pub from_segment : (index : ℕ) (es : List Event) → T (rising es)
    → events_from index es ≡ segment_events index es ++ events_from (suc index) es
from_segment index [] rises = refl
from_segment index (e ∷ es) rises =
    let rest : events_from index es ≡ segment_events index es ++ events_from (suc index) es =
    from_segment index es (rising_rest e es rises) in
    ⊎_elim
    (λ behind. ⊎_elim
    (λ here.
    from_more index e es behind
    ∙ ap (λ (fs : List Event). e ∷ fs) rest
    ∙ ap₂ (λ (ds fs : List Event). ds ++ fs) (sym (events_more index e es (omega arith)))
    (sym (from_same (suc index) e es (omega arith))))
    (λ later.
    let empty : segment_events index es ≡ [] = none_held index e.start es later (rising_after e es rises) in
    from_more index e es behind
    ∙ ap (λ (fs : List Event). e ∷ fs) (rest ∙ ap (λ (ds : List Event). ds ++ events_from (suc index) es) empty)
    ∙ ap₂ (λ (ds fs : List Event). ds ++ fs) (sym (events_same index e es (λ here. omega arith) ∙ empty))
    (sym (from_more (suc index) e es later)))
    (le_or_lt (start_index e) index))
    (λ before.
    from_same index e es before
    ∙ rest
    ∙ ap₂ (λ (ds fs : List Event). ds ++ fs) (sym (events_same index e es (λ here. omega arith)))
    (sym (from_same (suc index) e es (omega arith))))
    (le_or_lt index (start_index e))

-- ---- the events of segments and of tables in a row

module _ (es : List Event) (rises : T (rising es)) where
  abbrev pub segment_held : ℕ → List Event
  segment_held index = segment_events index es

  -- the events of a table, segment by segment
  abbrev pub table_held : ℕ → List Event
  table_held table =
      flatten (each segment_held (table * table_segments) (suc (last_segment es table - table * table_segments)))

  -- after a table's last segment come the events of the next tables
  from_table : (table : ℕ) → events_from (table * 32) es ≡ table_held table ++ events_from (suc table * 32) es
  from_table table =
      let last : ℕ = last_segment es table in
      let n : ℕ = suc (last - table * 32) in
      let inside : last / 32 ≡ table = segment_in_table es table in
      let skips : (e : Event) → (start_index e / 32 ≡ table → start_index e ≤ last) → table * 32 + n ≤ start_index e
      → suc table * 32 ≤ start_index e =
      λ e most behind.
      ⊎_elim (λ later. later) (λ within. absurd (omega (arith, most (omega arith))))
      (le_or_lt (suc table * 32) (start_index e)) in
      joined_split segment_held (λ (k : ℕ). events_from k es) (λ k. from_segment k es rises) (table * 32) n
      ∙ ap (λ (fs : List Event). table_held table ++ fs)
      (from_skip (table * 32 + n) (suc table * 32) es (omega arith)
      (every_map skips es (segment_most table es rises)))

  -- and after the last table none
  pub all_held : flatten (each table_held 0 (suc (last_table es))) ≡ es
  all_held =
      let all : List Event = flatten (each table_held 0 (suc (last_table es))) in
      let ends : events_from ((0 + suc (last_table es)) * 32) es ≡ [] =
      from_none ((0 + suc (last_table es)) * 32) es
      (every_map (λ (e : Event) (most : start_index e ≤ last_index 0 es). omega arith) es (last_most 0 es rises)) in
      sym (
      sym (from_all es)
      ∙ joined_split table_held (λ (k : ℕ). events_from (k * 32) es) from_table 0 (suc (last_table es))
      ∙ ap (λ (fs : List Event). all ++ fs) ends
      ∙ append-nil all
      )
