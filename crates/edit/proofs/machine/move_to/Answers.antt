-- `move_to` meets its contract: each return by its own law of MoveLaws, from what the callees ensure. Assumes nothing.
use Rattle.std.proofs.Common.{ℕ, List, [], refl, arith}
use mathlib.Core.Path.{sym, ap, ◌∙◌}
use Rattle.eit.specs.Placing.{placing}
use Rattle.eit.specs.Pools.{lent_pools}
use Rattle.eit.specs.Sizes.{broadcast}
use Rattle.edit_index.specs.Order.{starts_in}
use Rattle.edit_index.specs.declared.search.Places.{Places}
use Rattle.edit_index.proofs.IndexLaws.{record_none, record_some}
use Rattle.edit.proofs.IndexedLaws.{its_place}
use Rattle.edit.proofs.MoveLaws.{move_outside, move_absent, move_overlaps, move_goes}
use Rattle.edit.proofs.machine.move_to.Goals as goal

pub returns-then-not-is_start : goal.returns-then-not-is_start
returns-then-not-is_start c = λ sizes pools.
    move_outside sizes pools _ _ c.requires c.args.at _ _ (sym c.is_start.ensures ∙ c.if-not-is_start.true)

pub returns-in_default : goal.returns-in_default
returns-in_default c = λ sizes pools.
    move_absent sizes pools _ _ c.requires c.args.at _ _ (sym c.is_start.ensures ∙ c.if-not-is_start.false)
    (record_none c.args.index.now c.args.id c.in_default.ensures)

pub overflow_sub-own : goal.overflow_sub-own
overflow_sub-own c =
    let some = record_some c.args.index.now c.args.id c.in-Some.event c.in-Some.ensures in
    omega (
      arith,
      its_place broadcast (lent_pools [] []) _ _ c.requires 0 c.args.id some.0 _ some.1 _
          (ap (λ (p : Places). p.one) c.places_of-places.ensures
          ∙ ap (λ (es : List ℕ). placing c.in-Some.event.start (starts_in es)) c.entries.ensures),
    )

pub place_left-to-requires : goal.place_left-to-requires
place_left-to-requires c =
    let some = record_some c.args.index.now c.args.id c.in-Some.event c.in-Some.ensures in
    omega (
      arith,
      its_place broadcast (lent_pools [] []) _ _ c.requires 0 c.args.id some.0 _ some.1 _
          (ap (λ (p : Places). p.one) c.places_of-places.ensures
          ∙ ap (λ (es : List ℕ). placing c.in-Some.event.start (starts_in es)) c.entries.ensures),
    )

pub returns-then-overlaps_neighbour : goal.returns-then-overlaps_neighbour
returns-then-overlaps_neighbour c = λ sizes pools.
    let some = record_some c.args.index.now c.args.id c.in-Some.event c.in-Some.ensures in
    move_overlaps sizes pools _ _ c.requires c.args.at _ _ (sym c.is_start.ensures ∙ c.if-not-is_start.false)
    some.0 _ some.1
    _ (ap (λ (p : Places). p.other) c.places_of-places.ensures
    ∙ ap (λ (es : List ℕ). placing c.args.start (starts_in es)) c.entries.ensures)
    _ (ap (λ (p : Places). p.one) c.places_of-places.ensures
    ∙ ap (λ (es : List ℕ). placing c.in-Some.event.start (starts_in es)) c.entries.ensures)
    _ c.place_left-to.ensures _ refl
    (sym c.overlaps_neighbour.ensures ∙ c.if-overlaps_neighbour.true)

pub returns : goal.returns
returns c = λ sizes pools.
    let some = record_some c.args.index.now c.args.id c.in-Some.event c.in-Some.ensures in
    move_goes sizes pools _ _ c.requires c.args.at _ _ (sym c.is_start.ensures ∙ c.if-not-is_start.false)
    some.0 _ some.1
    _ (ap (λ (p : Places). p.other) c.places_of-places.ensures
    ∙ ap (λ (es : List ℕ). placing c.args.start (starts_in es)) c.entries.ensures)
    _ (ap (λ (p : Places). p.one) c.places_of-places.ensures
    ∙ ap (λ (es : List ℕ). placing c.in-Some.event.start (starts_in es)) c.entries.ensures)
    _ c.place_left-to.ensures _ refl
    (sym c.overlaps_neighbour.ensures ∙ c.if-overlaps_neighbour.false) _ c.re_place.ensures
