-- `check_within` meets its contract: a turn is a piece of the walk (`walk_more`), and each way out is its end.
-- Assumes nothing.
use mathlib.Core.Path.{refl}
use Rattle.std.proofs.lemmas.Result.{err_from_is_err_and}
use Rattle.sections.proofs.Read.{check_base}
use Rattle.read_walk.proofs.WalksLaws.{turn_of, walk_over}
use Rattle.read_check.proofs.WalkLaws.{walk_start, walk_stops, walk_more, walk_done}
use Rattle.read_check.proofs.check_within.Goals as goal

pub returns-then-base_day-gt-BASE_DAY_MAX : goal.returns-then-base_day-gt-BASE_DAY_MAX
returns-then-base_day-gt-BASE_DAY_MAX c = check_base _ _ _ c.if-base_day-gt-BASE_DAY_MAX.true

pub loop-offset-init : goal.loop-offset-init
loop-offset-init c =
    rw (c.into_iter-offset-iterator.ensures.into_iter_gives, c.sections-offset-items.ensures.0, c.sections-offset-items.ensures.1)
    (refl, walk_start _ _ _)

pub returns-in_err-state : goal.returns-in_err-state
returns-in_err-state c =
    let (of, so_far) = c.loop-offset.invariant in
    let turn = turn_of of (c.in-Some.offset, c.in-Some.section) c.in-Some.ensures.steps in
    let exit = err_from_is_err_and c.from_residual.result c.from_residual.ensures.1 in
    rw (exit.1, exit.2)
    (walk_stops so_far turn.inside turn.section c.if-base_day-gt-BASE_DAY_MAX.false c.in_err-state.field-0.0
    (c.in_err-state.ensures so_far.progress (rw turn.at so_far.tracks)))

pub loop-offset-preserved : goal.loop-offset-preserved
loop-offset-preserved c =
    let (of, so_far) = c.loop-offset.invariant in
    let turn = turn_of of (c.in-Some.offset, c.in-Some.section) c.in-Some.ensures.steps in (
      turn.of,
      walk_more so_far turn.inside turn.section _ c.check_section.new.versions c.check_section.new.seen turn.ends
          (rw turn.at at (c.in_ok-state.ensures so_far.progress (rw turn.at so_far.tracks))),
    )

pub returns : goal.returns
returns c =
    let (of, so_far) = c.loop-offset.invariant in
    walk_done so_far (walk_over of c.in-None.ensures.steps) c.if-base_day-gt-BASE_DAY_MAX.false c.at_end.result
    (c.at_end.ensures _ _ _ so_far.tracks)
