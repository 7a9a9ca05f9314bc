-- By the place: the first record alone, the one before it, the one behind it. The ids do not matter.
use Rattle.std.proofs.Common.{sym, ◌∙◌}
use Rattle.edit_index.specs.Index.{lent_index}
use Rattle.edit_index.proofs.NeighbourLaws.{next_front, next_before, next_behind}
use Rattle.edit_index.proofs.neighbours.overlaps_neighbour.Goals as goal

pub returns-then-place-eq0 : goal.returns-then-place-eq0
returns-then-place-eq0 c = λ ids.
    c.overlaps_at.ensures ids
    ∙ next_front c.args.event (lent_index c.args.slots.now c.args.order.now ids c.args.count) c.args.own c.args.place
    c.if-place-eq0.true

pub returns-then-overlaps_at : goal.returns-then-overlaps_at
returns-then-overlaps_at c = λ ids.
    next_before c.args.event (lent_index c.args.slots.now c.args.order.now ids c.args.count) c.args.own c.args.place
    c.if-place-eq0.false
    (sym (c.overlaps_at-2.ensures ids) ∙ c.if-overlaps_at.true)

pub returns : goal.returns
returns c = λ ids.
    c.overlaps_at-3.ensures ids
    ∙ next_behind c.args.event (lent_index c.args.slots.now c.args.order.now ids c.args.count) c.args.own c.args.place
    c.if-place-eq0.false
    (sym (c.overlaps_at-2.ensures ids) ∙ c.if-overlaps_at.false)
