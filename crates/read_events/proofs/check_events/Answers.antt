-- `check_events` meets its contract: each way on or out is decided by the tests of the event there. Assumes nothing.
use mathlib.Core.Path.{sym, ap, ◌∙◌}
use native.Mathlib.Omega.{arith}
use lib.ListN.{length}
use Rattle.sections.specs.Decode.{stated_event_size}
use Rattle.sections.proofs.Split.{split_joined}
use Rattle.read_events.proofs.PieceLaws.{piece_of}
use Rattle.read_events.proofs.EventPassLaws.{pass_room, pass_broken, pass_stop, pass_more, pass_filled, pass_empty}
use Rattle.read_events.proofs.check_events.Goals as goal
use Rattle.read_events.proofs.check_events.Goals.{then-not-is_in_segment-via-then-not-is_in_segment}
use Rattle.read_events.proofs.check_events.Goals.{then-not-is_in_segment-via-else-not-is_in_segment+then-not-is_new}
use Rattle.read_events.proofs.check_events.Goals.{else-passed-eq0-via-then-passed-eq0+else-not-is_alone}
use Rattle.read_events.proofs.check_events.Goals.{else-passed-eq0-via-else-passed-eq0}

pub returns-in_default : goal.returns-in_default
returns-in_default c =
    let piece = piece_of c.loop-bytes.bytes-iterator.rest.now c.in-Some.ensures.steps in
    sym (pass_broken c.loop-bytes.invariant piece c.in-Some.ensures.steps (sym c.in_default.ensures))

pub returns-then-not-is_in_segment : goal.returns-then-not-is_in_segment
returns-then-not-is_in_segment c =
    let piece = piece_of c.loop-bytes.bytes-iterator.rest.now c.in-Some.ensures.steps in
    let stop = pass_stop c.loop-bytes.invariant piece c.in-Some.ensures.steps (sym c.in-Some-read_event.ensures) in
    sym
    (elim c.then-not-is_in_segment.branch [
      | then-not-is_in_segment-via-then-not-is_in_segment w ↦
          stop (rw (sym c.is_in_segment.ensures ∙ w.if-not-is_in_segment.true))
      | then-not-is_in_segment-via-else-not-is_in_segment+then-not-is_new w ↦
          stop
          (rw (sym c.is_in_segment.ensures ∙ w.if-not-is_in_segment.false)
          (sym w.is_new.ensures ∙ w.if-not-is_new.true))
    ])

pub overflow_add-passed : goal.overflow_add-passed
overflow_add-passed c =
    let piece = piece_of c.loop-bytes.bytes-iterator.rest.now c.in-Some.ensures.steps in
    let room = pass_room c.loop-bytes.invariant piece c.in-Some.ensures.steps in
    omega (arith, room, ap length (split_joined stated_event_size (λ piece. omega arith) c.args.events.now))

pub loop-bytes-preserved : goal.loop-bytes-preserved
loop-bytes-preserved c =
    let piece = piece_of c.loop-bytes.bytes-iterator.rest.now c.in-Some.ensures.steps in
    pass_more c.loop-bytes.invariant piece c.in-Some.ensures.steps (sym c.in-Some-read_event.ensures)
    (rw (sym c.is_in_segment.ensures ∙ c.if-not-is_in_segment.false)
    (sym c.is_new.ensures ∙ c.if-not-is_new.false))
    c.add_seen.ensures
    (cc)

pub returns-then-not-is_alone : goal.returns-then-not-is_alone
returns-then-not-is_alone c =
    sym (pass_empty c.loop-bytes.invariant c.in-None.ensures.steps.0 c.if-passed-eq0.true
    (sym c.is_alone.ensures ∙ c.if-not-is_alone.true))

pub returns : goal.returns
returns c =
    let end = c.in-None.ensures.steps.0 in
    sym
    (elim c.else-passed-eq0.branch [
      | else-passed-eq0-via-then-passed-eq0+else-not-is_alone w ↦
          pass_empty c.loop-bytes.invariant end w.if-passed-eq0.true (sym w.is_alone.ensures ∙ w.if-not-is_alone.false)
      | else-passed-eq0-via-else-passed-eq0 w ↦ pass_filled c.loop-bytes.invariant end w.if-passed-eq0.false
    ])
