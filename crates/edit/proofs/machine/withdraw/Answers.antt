-- `withdraw` meets its contract: each return by its own law of WithdrawLaws, from what the callees ensure.
-- Assumes nothing.
use Rattle.std.proofs.Common.{ℕ, List, [], arith}
use mathlib.Core.Path.{ap, ◌∙◌}
use Rattle.eit.specs.Placing.{placing}
use Rattle.eit.specs.Pools.{lent_pools}
use Rattle.eit.specs.Sizes.{broadcast}
use Rattle.edit_index.specs.Order.{starts_in}
use Rattle.edit_index.proofs.IndexLaws.{record_none, record_some}
use Rattle.edit.proofs.IndexedLaws.{its_place}
use Rattle.edit.proofs.WithdrawLaws.{withdraw_absent, withdraw_present}
use Rattle.edit.proofs.machine.withdraw.Goals as goal

pub returns-in_default : goal.returns-in_default
returns-in_default c = λ sizes pools.
    withdraw_absent sizes pools _ _ c.requires c.args.at _ (record_none c.args.index.now c.args.id c.in_default.ensures)

pub overflow_sub-found : goal.overflow_sub-found
overflow_sub-found c =
    let some = record_some c.args.index.now c.args.id c.in-Some.event c.in-Some.ensures in
    omega (
      arith,
      its_place broadcast (lent_pools [] []) _ _ c.requires 0 c.args.id some.0 _ some.1 _
          (c.place_of-found.ensures
          ∙ ap (λ (es : List ℕ). placing c.in-Some.event.start (starts_in es)) c.entries.ensures),
    )

pub returns : goal.returns
returns c = λ sizes pools.
    let some = record_some c.args.index.now c.args.id c.in-Some.event c.in-Some.ensures in
    withdraw_present sizes pools _ _ c.requires c.args.at _ some.0 _ some.1 _
    (c.place_of-found.ensures
    ∙ ap (λ (es : List ℕ). placing c.in-Some.event.start (starts_in es)) c.entries.ensures)
    _ c.take_out.ensures _ (rw c.count.ensures at c.write_record.ensures)
