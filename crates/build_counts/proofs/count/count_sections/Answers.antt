-- `count_sections` meets its contract: the test of soundness decides, and a turn counts one segment. Assumes nothing.
use Rattle.std.proofs.Common.{◌<◌, sym, ◌∙◌, arith}
use Rattle.eit.specs.Sizes.{room}
use Rattle.eit.specs.Pools.{Pools}
use Rattle.build_counts.proofs.CountPass.{count_start, count_past, need_small, count_on}
use Rattle.build_counts.proofs.CountEnd.{holds, unsound_is, sound_rises, count_end}
use Rattle.build_counts.proofs.count.count_sections.Goals as goal
use Rattle.build_counts.proofs.count.count_sections.Goals.{then-is_inside, else-is_inside}

pub returns-then-not-is_sound : goal.returns-then-not-is_sound
returns-then-not-is_sound c = sym (unsound_is _ _ _ (sym c.is_sound.ensures ∙ c.if-not-is_sound.true))

pub loop-index-init : goal.loop-index-init
loop-index-init c = count_start _ _ _ _

pub overflow_add-need : goal.overflow_add-need
overflow_add-need c =
    let turn = c.loop-index in
    let pools : Pools = c.args.pools.now in
    let rises = sound_rises _ _ _ _ (holds (sym c.is_sound.ensures ∙ c.if-not-is_sound.false)) in
    let narrow : room c.args.sizes < 0x1_0000 = omega (arith, c.room_of-room.ensures) in
    let bounded =
    need_small _ _ _ _ rises turn.invariant (omega arith) (sym (c.is_inside.ensures pools) ∙ c.if-is_inside.true)
    c.end_of-end.result (c.end_of-end.ensures pools) c.room_of-room.result c.room_of-room.ensures narrow
    c.count_segment-packed.result c.count_segment-packed.ensures in
    omega (arith, turn.invariant.small, turn.invariant.within, bounded)

pub loop-index-preserved : goal.loop-index-preserved
loop-index-preserved c =
    let turn = c.loop-index in
    let pools : Pools = c.args.pools.now in
    let rises = sound_rises _ _ _ _ (holds (sym c.is_sound.ensures ∙ c.if-not-is_sound.false)) in
    let narrow : room c.args.sizes < 0x1_0000 = omega (arith, c.room_of-room.ensures) in
    let tested = sym (c.is_inside.ensures pools) in
    elim c.if-is_inside.branch [
      | then-is_inside w ↦
          rw (w.counts-is, w.need-is, w.from-is)
          (count_on _ _ _ _ rises turn.invariant (omega arith) (tested ∙ w.if-is_inside.true) w.end_of-end.result
          (w.end_of-end.ensures pools) c.room_of-room.result c.room_of-room.ensures narrow
          w.count_segment-packed.result w.count_segment-packed.ensures)
      | else-is_inside w ↦
          rw (w.counts-is, w.need-is, w.from-is)
          (count_past _ _ _ _ rises turn.invariant (omega arith) (tested ∙ w.if-is_inside.false))
    ]

pub returns : goal.returns
returns c =
    count_end _ _ _ _ (holds (sym c.is_sound.ensures ∙ c.if-not-is_sound.false)) c.loop-index.invariant
    c.loop-index-test.false c.lowest_full-lowest.ensures
