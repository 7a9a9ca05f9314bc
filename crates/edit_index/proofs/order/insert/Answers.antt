-- `insert` meets its contract: the later entries move up, and the entry is written in front of them. Assumes nothing.
use Rattle.std.proofs.Common.{ℕ, List, arith, sym, set, ap, ◌∙◌}
use Rattle.edit_index.proofs.OrderLaws.{with_full, with_beyond, with_ends}
use Rattle.edit_index.proofs.order.insert.Goals as goal
use Rattle.edit_index.proofs.order.insert.Goals.{then-order-count-via-then-order-count, then-order-count-via-else-order-count+then-count-place}

pub returns-then-order-count : goal.returns-then-order-count
returns-then-order-count c =
    let d = c.args.order.now in
    elim c.then-order-count.branch [
      | then-order-count-via-then-order-count w ↦
          sym (with_full d c.args.count c.args.place c.args.entry (omega arith))
      | then-order-count-via-else-order-count+then-count-place w ↦
          sym (with_beyond d c.args.count c.args.place c.args.entry (omega arith) (omega arith))
    ]

pub returns : goal.returns
returns c =
    ap (λ (l : List ℕ). set l c.args.place c.args.entry) c.copy_within.ensures.after
    ∙ with_ends c.args.order.now c.args.count c.args.place c.args.entry (omega arith) (omega arith)
