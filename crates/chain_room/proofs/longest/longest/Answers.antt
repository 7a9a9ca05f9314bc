-- `longest` meets its contract: the events before the place are packed once, and the lengths are tried behind them.
-- Assumes nothing.
use Rattle.std.proofs.Common.{◌≡◌, Some, None, rules, sym, ap, ◌∙◌}
use Rattle.build_counts.specs.Between.{events_between}
use Rattle.room.specs.ChainRoom.{never_one}
use Rattle.chain_room.proofs.TrialLaws.{longest_is, longest_none}
use Rattle.chain_room.proofs.longest.longest.Goals as goal

pub returns-in_err-before : goal.returns-in_err-before
returns-in_err-before c =
    let a = c.args in
    let lent = events_between a.pools.now a.list.now in
    let r : c.from_residual.result ≡ None = search rules in
    let none : c.fill.result ≡ None = search rules in
    r ∙ longest_none a.room (lent a.from a.place) (lent a.place a.end) (sym none ∙ c.fill.ensures)

pub returns : goal.returns
returns c =
    let a = c.args in
    let lent = events_between a.pools.now a.list.now in
    let before : c.fill.result ≡ Some c.in_ok-before.before = c.in_ok-before.was in
    c.length_of.ensures
    ∙ ap never_one
    (sym c.count_lengths.ensures
    ∙ longest_is a.room (lent a.from a.place) (lent a.place a.end) (sym before ∙ c.fill.ensures))
