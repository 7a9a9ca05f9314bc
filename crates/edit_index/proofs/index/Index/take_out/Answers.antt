-- The arrays are those that `take_out` leaves, and the count is one less.
use Rattle.std.proofs.Common.{ap, ℕ, ◌∙◌}
use Rattle.edit_index.specs.Index.{lent_index, taken_out}
use Rattle.edit_index.proofs.index.Index.take_out.Goals as goal

pub returns : goal.returns
returns c =
    ap (λ (n : ℕ). lent_index c.self.inside.slots.now c.take_out.new.order c.take_out.new.ids n)
    c.saturating_sub-self-inside.ensures
    ∙ c.take_out.ensures c.self.inside.slots.now
    ∙ ap (taken_out c.args.place c.args.id) c.self.view_is
