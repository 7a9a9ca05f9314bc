-- A segment is unpackable exactly if no eight sections hold its events; and of a sound list either no segment is, or
-- there is a lowest one. By the laws of greedy packing. Assumes nothing.
use mathlib.Core.Path.{◌≡◌, refl, sym, subst, ◌∙◌}
use mathlib.Core.Bool.{Bool, not}
use mathlib.Core.Logic.{◌⊎◌, inl, inr, ⊎_elim}
use mathlib.Core.List.{List, [], ◌∷◌}
use mathlib.Core.Option.{none, some}
use Prim.Native.Nat.{suc, ◌/◌, ℕ, ◌≤◌, ◌<◌}
use native.Mathlib.Omega.{arith}
use lib.Dec.{T, T_not}
use Rattle.eit.specs.Sizes.{room}
use Rattle.eit.specs.declared.Sizes.{Sizes}
use Rattle.eit.specs.Events.{Event, rising}
use Rattle.eit.proofs.Test.{le_or_lt}
use Rattle.packing.specs.Greedy.{greedy, unpackable}
use Rattle.packing.proofs.Greedy.{greedy_packable, packable, greedy_count}
use Rattle.sections.specs.Section.{event_size}
use Rattle.sections.specs.Every.{Every}
use Rattle.sections.specs.Count.{segment_events}
use Rattle.sections.proofs.Count.{events_same}
use Rattle.schedule.specs.Extent.{last_index}
use Rattle.schedule.specs.SectionsOf.{is_unpackable, lowest_unpackable}
use Rattle.schedule.specs.Given.{EightHold}
use Rattle.sections.proofs.Each.{lowest_or}
use Rattle.schedule.proofs.SoundEvents.{SoundStarts}
use Rattle.schedule.proofs.Extent.{start_index, tables_few, last_most}

-- the test of a segment
pub test_is : (sizes : Sizes) (es : List Event) (index : ℕ)
    → is_unpackable sizes es index ≡ unpackable event_size (room sizes) 8 (segment_events index es)
unfolding is_unpackable
test_is sizes es index = refl

-- a segment is unpackable exactly if no eight sections hold its events
module _ (sizes : Sizes) (es : List Event) (index : ℕ) where
  pub eight_hold : T (not (is_unpackable sizes es index)) → EightHold sizes es index
  eight_hold fits =
      let xs : List Event = segment_events index es in (
        greedy event_size (room sizes) 8 xs,
        packable event_size (room sizes) 8 xs (rw (test_is sizes es index) at fits),
        greedy_count event_size (room sizes) 8 xs,
      )

  pub held_packable : EightHold sizes es index → T (not (is_unpackable sizes es index))
  held_packable (parts, packing, few) =
      subst (λ (b : Bool). T (not b))
      (sym (test_is sizes es index
      ∙ greedy_packable event_size (room sizes) 8 (segment_events index es) parts packing few)) tt

-- behind the last event's segment there are no events
beyond_none : (index last : ℕ) (es : List Event) → last < index → Every (λ (e : Event). start_index e ≤ last) es
    → segment_events index es ≡ []
beyond_none index last [] behind most = refl
beyond_none index last (e ∷ es) behind most =
    let elsewhere : start_index e ≡ index → ⊥ = λ here. omega arith in
    events_same index e es elsewhere ∙ beyond_none index last es behind most.1

beyond_packable : (sizes : Sizes) (index : ℕ) (es : List Event) → last_index 0 es < index → T (rising es)
    → T (not (is_unpackable sizes es index))
beyond_packable sizes index es behind rises =
    let none-there : segment_events index es ≡ [] =
    beyond_none index (last_index 0 es) es behind (last_most 0 es rises) in
    held_packable sizes es index ([], record { ordered = sym none-there; all_fit = tt }, omega arith)

-- no segment is unpackable, or one is and none before it
pub packable_or : (sizes : Sizes) (es : List Event) → SoundStarts es
    → ((lowest_unpackable sizes es ≡ none) × ((index : ℕ) → T (not (is_unpackable sizes es index))))
    ⊎ ((index : ℕ) × (lowest_unpackable sizes es ≡ some index) × (index < 512) × T (is_unpackable sizes es index)
    × ((lower : ℕ) → lower < index → T (not (is_unpackable sizes es lower))))
unfolding lowest_unpackable
packable_or sizes es facts =
    let last : ℕ = last_index 0 es in
    let few : last / 32 < 16 = tables_few es facts.starts in
    ⊎_elim
    (λ (ends, all). inl (
      ends,
      λ index.
          ⊎_elim (λ behind. beyond_packable sizes index es behind facts.rises)
          (λ within. all index (omega arith) (omega arith))
          (le_or_lt (suc last) index),
    ))
    (λ (index, is, within, fails, before). inr
    (index, is, omega arith, fails, λ lower less. before lower (omega arith) less))
    (lowest_or (is_unpackable sizes es) 0 (suc last))

-- where no segment is unpackable there is no lowest
pub lowest_none : (sizes : Sizes) (es : List Event) → ((index : ℕ) → T (not (is_unpackable sizes es index)))
    → lowest_unpackable sizes es ≡ none
unfolding lowest_unpackable
lowest_none sizes es fits =
    ⊎_elim (λ (ends, all). ends)
    (λ (index, is, few, fails, before). absurd (T_not (is_unpackable sizes es index) (fits index) fails))
    (lowest_or (is_unpackable sizes es) 0 (suc (last_index 0 es)))
