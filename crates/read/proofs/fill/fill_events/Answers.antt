-- `fill::fill_events` meets its contract: every event is there (`never_none`), and a turn fills in its record
-- (`fill_more`). Assumes nothing.
use Rattle.std.proofs.Common.{refl, sym, ◌∙◌, arith}
use Rattle.read.proofs.FillLaws.{fill_start, never_none, fill_inside, loop_bytes, fill_more, fill_end}
use Rattle.read.proofs.fill.fill_events.Goals as goal

pub loop-bytes-init : goal.loop-bytes-init
loop-bytes-init c =
    rw (c.into_iter-bytes-iterator.ensures.into_iter_gives, c.events-bytes-items.ensures)
    (fill_start c.requires.0 c.requires.1)

pub returns-in_default : goal.returns-in_default
returns-in_default c =
    absurd (never_none c.loop-bytes.invariant _ _ c.in-Some.ensures.steps (sym c.read_event.ensures ∙ c.in_default.is))

pub overflow_add-offset : goal.overflow_add-offset
overflow_add-offset c =
    omega (arith, fill_inside c.loop-bytes.invariant _ _ c.in-Some.ensures.steps, loop_bytes c.args.events.now)

pub overflow_cast-offset : goal.overflow_cast-offset
overflow_cast-offset c =
    omega (arith, fill_inside c.loop-bytes.invariant _ _ c.in-Some.ensures.steps, loop_bytes c.args.events.now)

pub overflow_add-at : goal.overflow_add-at
overflow_add-at c =
    omega (arith, fill_inside c.loop-bytes.invariant _ _ c.in-Some.ensures.steps, loop_bytes c.args.events.now)

pub loop-bytes-preserved : goal.loop-bytes-preserved
loop-bytes-preserved c =
    fill_more c.loop-bytes.invariant _ _ c.in-Some.ensures.steps (sym c.read_event.ensures ∙ c.in-Some-read_event.is) refl
    c.write_record.ensures

pub returns : goal.returns
returns c = fill_end c.loop-bytes.invariant c.in-None.ensures.steps.0
