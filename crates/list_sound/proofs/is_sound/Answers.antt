-- `is_sound` meets its contract: before each turn the pass stands as `Pass` says, and each way on or out is decided by
-- the tests of the record there. Assumes nothing.
use Rattle.std.proofs.Common.{sym, ◌∙◌}
use borrow.Author.Tests.{le-leb, lt-leb}
use Rattle.list_sound.proofs.ForwardLaws.{sound_many, sound_short, sound_held}
use Rattle.list_sound.proofs.PassLaws.{pass_start, pass_end, pass_stop, pass_more}
use Rattle.list_sound.proofs.is_sound.Goals as goal
use Rattle.list_sound.proofs.is_sound.Goals.{then-sizes-count-via-then-sizes-count, then-sizes-count-via-else-sizes-count+then-list-count}
use Rattle.list_sound.proofs.is_sound.Goals.{then-not-is_in_range-via-then-not-is_in_range, then-not-is_in_range-via-else-not-is_in_range+then-not-has_chain, then-not-is_in_range-via-else-not-is_in_range+else-not-has_chain+then-r-least, then-not-is_in_range-via-else-not-is_in_range+else-not-has_chain+else-r-least+then-is_seen}

pub returns-then-sizes-count : goal.returns-then-sizes-count
returns-then-sizes-count c =
    let a = c.args in
    let pools = a.pools.now in
    elim c.then-sizes-count.branch [
      | then-sizes-count-via-then-sizes-count w ↦
          sym (sound_many a.sizes pools a.list.now a.count w.if-sizes-count.true)
      | then-sizes-count-via-else-sizes-count+then-list-count w ↦
          sym (sound_short a.sizes pools a.list.now a.count w.if-list-count.true)
    ]

pub loop-i-init : goal.loop-i-init
loop-i-init c = pass_start _ _ _

pub returns-then-not-is_in_range : goal.returns-then-not-is_in_range
returns-then-not-is_in_range c =
    let a = c.args in
    let r = c.record_at-r.result in
    let range = sym c.is_in_range.ensures in
    let stop = pass_stop c.loop-i.invariant r c.loop-i-test.true c.record_at-r.ensures in
    sym
    (sound_held a.sizes a.pools.now a.list.now a.count c.if-sizes-count.false c.if-list-count.false
    ∙ elim c.then-not-is_in_range.branch [
      | then-not-is_in_range-via-then-not-is_in_range w ↦ stop (rw (range ∙ w.if-not-is_in_range.true))
      | then-not-is_in_range-via-else-not-is_in_range+then-not-has_chain w ↦
          stop (rw (range ∙ w.if-not-is_in_range.false, sym w.has_chain.ensures ∙ w.if-not-has_chain.true))
      | then-not-is_in_range-via-else-not-is_in_range+else-not-has_chain+then-r-least w ↦
          stop
          (rw (
            range ∙ w.if-not-is_in_range.false,
            sym w.has_chain.ensures ∙ w.if-not-has_chain.false,
            lt-leb _ _ w.if-r-least.true,
          ))
      | then-not-is_in_range-via-else-not-is_in_range+else-not-has_chain+else-r-least+then-is_seen w ↦
          stop
          (rw (
            range ∙ w.if-not-is_in_range.false,
            sym w.has_chain.ensures ∙ w.if-not-has_chain.false,
            le-leb _ _ w.if-r-least.false,
            sym w.is_seen.ensures ∙ w.if-is_seen.true,
          ))
    ])

pub loop-i-preserved : goal.loop-i-preserved
loop-i-preserved c =
    pass_more c.loop-i.invariant c.record_at-r.result c.loop-i-test.true c.record_at-r.ensures
    (rw (
      sym c.is_in_range.ensures ∙ c.if-not-is_in_range.false,
      sym c.has_chain.ensures ∙ c.if-not-has_chain.false,
      le-leb _ _ c.if-r-least.false,
      sym c.is_seen.ensures ∙ c.if-is_seen.false,
    ))
    c.add_seen.ensures
    c.least_behind-least.ensures

pub returns : goal.returns
returns c =
    let a = c.args in
    sym
    (sound_held a.sizes a.pools.now a.list.now a.count c.if-sizes-count.false c.if-list-count.false
    ∙ pass_end c.loop-i.invariant c.loop-i-test.false)
