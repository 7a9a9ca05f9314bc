-- `fill` meets its contract: before each turn the pass over the rest goes on from what is filled so far. Assumes
-- nothing.
use Rattle.std.proofs.Common.{◌≡◌, List, Option, Some, None, rules, sym, ap, ◌∙◌}
use Rattle.eit.specs.Events.{Event}
use Rattle.packing.specs.declared.Filling.{Filling}
use Rattle.packing.specs.OnePass.{filled}
use Rattle.packing.proofs.OnePass.{filled_none}
use Rattle.sections.specs.Section.{event_size}
use Rattle.build_counts.specs.Between.{events_between}
use Rattle.chain_room.proofs.TrialLaws.{fill_more, fill_none, fill_end}
use Rattle.chain_room.proofs.filling.fill.Goals as goal

pub returns-in_err-filling : goal.returns-in_err-filling
returns-in_err-filling c =
    let a = c.args in
    let none : a.before ≡ None = search rules in
    let r : c.from_residual.result ≡ None = search rules in
    let es : List Event = events_between a.pools.now a.list.now a.from a.end in
    r ∙ sym (ap (λ (f : Option Filling). filled event_size a.room f es) none ∙ filled_none event_size a.room es)

pub returns-in_err-filling-2 : goal.returns-in_err-filling-2
returns-in_err-filling-2 c =
    let none : c.add.result ≡ None = search rules in
    let r : c.from_residual-in_err-filling-2.result ≡ None = search rules in
    r ∙ fill_none c.loop-at.invariant c.loop-at-test.true c.event_size.ensures c.add.ensures none

pub loop-at-preserved : goal.loop-at-preserved
loop-at-preserved c =
    let some : c.add.result ≡ Some c.in_ok-filling-2.filling = search rules in
    fill_more c.loop-at.invariant c.loop-at-test.true c.event_size.ensures c.add.ensures some

pub returns : goal.returns
returns c = fill_end c.loop-at.invariant c.loop-at-test.false
