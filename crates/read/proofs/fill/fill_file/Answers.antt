-- `fill::fill_file` meets its contract: a turn fills in the records of a section (`file_more`). Assumes nothing.
use Rattle.std.proofs.Common.{refl, arith}
use Rattle.read_walk.proofs.WalksLaws.{turn_of, walk_over}
use Rattle.read.proofs.FileLaws.{file_start, file_room, file_more, file_end, events_are, events_inside}
use Rattle.read.proofs.fill.fill_file.Goals as goal

pub loop-offset-init : goal.loop-offset-init
loop-offset-init c =
    rw (c.into_iter-offset-iterator.ensures.into_iter_gives, c.sections-offset-items.ensures.0)
    (refl, rw c.sections-offset-items.ensures.1 (file_start _ _ _ c.requires.0 c.requires.1))

pub fill_events-n-requires : goal.fill_events-n-requires
fill_events-n-requires c =
    let (of, inv) = c.loop-offset.invariant in
    let turn = turn_of of (c.in-Some.offset, c.in-Some.section) c.in-Some.ensures.steps in
    let loop = c.event_loop.ensures in (
      events_are inv turn.inside turn.section loop,
      file_room inv turn.inside turn.section loop,
      omega (arith, turn.at, events_inside inv turn.inside turn.section loop),
    )

pub loop-offset-preserved : goal.loop-offset-preserved
loop-offset-preserved c =
    let (of, inv) = c.loop-offset.invariant in
    let turn = turn_of of (c.in-Some.offset, c.in-Some.section) c.in-Some.ensures.steps in (
      turn.of,
      file_more inv turn.inside turn.section c.event_loop.ensures
          (rw turn.at at c.fill_events-n.ensures.0) c.fill_events-n.ensures.1 turn.ends,
    )

pub returns : goal.returns
returns c =
    let (of, inv) = c.loop-offset.invariant in
    file_end inv (walk_over of c.in-None.ensures.steps)
