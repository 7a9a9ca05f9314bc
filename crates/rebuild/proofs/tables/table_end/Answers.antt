-- `table_end` meets its contract: a turn passes one of the table's sections (`table_goes_on`). Assumes nothing.
use Rattle.std.proofs.Common.{◌≡◌, ◌+◌, length, refl, ◌∙◌, arith}
use Rattle.read_walk.proofs.SectionAtLaws.{end_is, end_inside}
use Rattle.read_walk.proofs.WalksLaws.{turn_of, walk_over}
use Rattle.rebuild.proofs.LeadingLaws.{table_ends, table_stops, table_goes_on}
use Rattle.rebuild.proofs.tables.table_end.Goals as goal

pub loop-at-init : goal.loop-at-init
loop-at-init c =
    rw (c.into_iter-at-iterator.ensures.into_iter_gives, c.sections_from-at-items.ensures.0)
    (refl, c.sections_from-at-items.ensures.1, refl)

pub bounds-file-at : goal.bounds-file-at
bounds-file-at c =
    let turn = turn_of c.loop-at.invariant.0 (c.in-Some.at, c.in-Some.section) c.in-Some.ensures.steps in
    omega (arith, turn.at, turn.inside)

pub overflow_add-end : goal.overflow_add-end
overflow_add-end c =
    let turn = turn_of c.loop-at.invariant.0 (c.in-Some.at, c.in-Some.section) c.in-Some.ensures.steps in
    let file = c.args.file.now in
    let at = c.loop-at.at-iterator.offset in
    omega (
      arith,
      turn.at,
      end_is file at turn.ends turn.section,
      end_inside file at turn.ends turn.inside,
    )

pub returns-then-file-at : goal.returns-then-file-at
returns-then-file-at c =
    let (of, here, left) = c.loop-at.invariant in
    let turn = turn_of of (c.in-Some.at, c.in-Some.section) c.in-Some.ensures.steps in
    let file = c.args.file.now in
    let stops =
    table_stops file c.args.table_id c.loop-at.at-iterator.offset turn.inside (rw turn.at at c.if-file-at.true) in
    omega (arith, turn.at, rw (← here) at left, stops)

pub loop-at-preserved : goal.loop-at-preserved
loop-at-preserved c =
    let (of, here, left) = c.loop-at.invariant in
    let turn = turn_of of (c.in-Some.at, c.in-Some.section) c.in-Some.ensures.steps in
    let file = c.args.file.now in
    let at = c.loop-at.at-iterator.offset in
    let next : c.next.new.self.offset ≡ c.in-Some.at + length c.in-Some.section.now =
    rw turn.at (end_is file at turn.ends turn.section) in
    let goes_on = table_goes_on file c.args.table_id at turn.inside (rw turn.at at c.if-file-at.false) turn.ends in
    (turn.of, next, rw (← next) (rw (← here) at left ∙ goes_on))

pub returns : goal.returns
returns c =
    let (of, here, left) = c.loop-at.invariant in
    let over = walk_over of c.in-None.ensures.steps in
    omega (arith, left, here, table_ends c.args.file.now c.args.table_id c.loop-at.end (omega arith))
