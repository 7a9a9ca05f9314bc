-- `remove` meets its contract: the later entries move down, and the entry is written behind them. Assumes nothing.
use Rattle.std.proofs.Common.{ℕ, ◌-◌, List, arith, sym, set, get_or, ap, ◌∙◌}
use Rattle.edit_index.proofs.OrderLaws.{without_short, without_beyond, without_ends}
use Rattle.edit_index.proofs.order.remove.Goals as goal
use Rattle.edit_index.proofs.order.remove.Goals.{then-order-count-via-then-order-count, then-order-count-via-else-order-count+then-count-place}

pub returns-then-order-count : goal.returns-then-order-count
returns-then-order-count c =
    let d = c.args.order.now in
    elim c.then-order-count.branch [
      | then-order-count-via-then-order-count w ↦
          sym (without_short d c.args.count c.args.place (omega arith))
      | then-order-count-via-else-order-count+then-count-place w ↦
          sym (without_beyond d c.args.count c.args.place (omega arith) (omega arith))
    ]

pub returns : goal.returns
returns c =
    ap (λ (l : List ℕ). set l (c.args.count - 1) (get_or c.args.order.now c.args.place 0)) c.copy_within.ensures.after
    ∙ without_ends c.args.order.now c.args.count c.args.place (omega arith) (omega arith)
