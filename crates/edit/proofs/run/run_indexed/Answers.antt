-- `run_indexed` meets its contract: a turn passes the command at `place` (`running_past`), or carries it out and goes on
-- (`running_on`) or ends there (`carried_ends`). Assumes nothing.
use Rattle.std.proofs.Common.{◌≡◌, ℕ, ◌+◌, ◌<◌, List, length, get_or, take, refl, arith}
use mathlib.Core.Path.{sym, ap, ◌∙◌}
use lib.ListN.{length-take}
use Rattle.eit.specs.Records.{EventList}
use Rattle.eit.specs.Sizes.{sizes_of}
use Rattle.script.specs.Form.{Command, operand_bytes}
use Rattle.std.proofs.lemmas.Result.{err_from_is_err_and}
use Rattle.edit_answer.specs.declared.EditError.{EditError}
use Rattle.edit_scan.specs.Commands.{commands_at}
use Rattle.edit_scan.proofs.StandLaws.{stands_here, stands_inside, stands_next, stands_split}
use Rattle.edit_index.specs.Index.{indexed_list}
use Rattle.edit.proofs.ForwardLaws.{carried_all, carried_ends}
use Rattle.edit.proofs.IndexRunLaws.{running_same, running_kept, running_few, running_past, running_on}
use Rattle.edit.proofs.RunLaws.{refusal_some}
use Rattle.edit.proofs.run.run_indexed.Goals as goal
use Rattle.edit.proofs.run.run_indexed.Goals.{then-is_seen+in_ok-carry_out, else-is_seen}

pub carry_out-requires : goal.carry_out-requires
carry_out-requires c =
    running_kept (sizes_of c.args.caller) c.args.pools.now _ c.args.live_places.now _ c.loop-place.invariant.1

pub returns-in_err-carry_out : goal.returns-in_err-carry_out
returns-in_err-carry_out c =
    let from = c.loop-place in
    let cs : List Command = take c.args.k (commands_at c.args.at c.args.script.now) in
    let among : from.place < length cs =
    omega (arith, c.loop-place-test.true, c.requires.1, length-take c.args.k (commands_at c.args.at c.args.script.now)) in
    let leaves = c.in_err-carry_out.ensures in
    let refused : EditError = c.in_err-carry_out.field-0.0 in
    let p = err_from_is_err_and c.from_residual.result c.from_residual.ensures.1 in
    rw (p.1, p.2) (
      carried_ends (sizes_of c.args.caller) c.args.pools.now _ c.args.live_places.now cs
          from.invariant.1.carried among _
          (stands_split from.invariant.0 c.loop-place-test.true _ refl)
          (sym c.is_seen.ensures ∙ c.if-is_seen.true) _ leaves.says (refusal_some refused),
      leaves.fits,
      omega (arith, leaves.holds.few, leaves.holds.order_size),
    )

pub bounds-script-i : goal.bounds-script-i
bounds-script-i c = stands_here c.loop-place.invariant.0 c.loop-place-test.true

pub overflow_add-i-in-loop-place : goal.overflow_add-i-in-loop-place
overflow_add-i-in-loop-place c =
    let from = c.loop-place in
    let next : ℕ = from.i + (1 + c.operand_bytes.result) in
    let there : next ≡ from.i + (1 + operand_bytes (get_or c.args.script.now from.i 0)) =
    ap (λ (n : ℕ). from.i + (1 + n)) c.operand_bytes.ensures in
    omega (arith, stands_inside from.invariant.0 c.loop-place-test.true next there)

pub loop-place-preserved : goal.loop-place-preserved
loop-place-preserved c =
    let a = c.args in
    let from = c.loop-place in
    let next : ℕ = from.i + (1 + c.operand_bytes.result) in
    let there : next ≡ from.i + (1 + operand_bytes (get_or a.script.now from.i 0)) =
    ap (λ (n : ℕ). from.i + (1 + n)) c.operand_bytes.ensures in
    let some : from.place < a.k = c.loop-place-test.true in
    let first : EventList = indexed_list a.list.now a.index.now in
    let cs : List Command = take a.k (commands_at a.at a.script.now) in
    let among : from.place < length cs =
    omega (arith, some, c.requires.1, length-take a.k (commands_at a.at a.script.now)) in (
      stands_next from.invariant.0 some next there,
      elim c.if-is_seen.branch [
        | then-is_seen+in_ok-carry_out w ↦
            running_same (sizes_of a.caller) a.pools.now first a.live_places.now cs w.list-is w.index-is
            (running_on (sizes_of a.caller) a.pools.now first a.live_places.now cs from.invariant.1 among _
            (stands_split from.invariant.0 some _ refl) (sym c.is_seen.ensures ∙ w.if-is_seen.true) _ _
            w.in_ok-carry_out.ensures w.carry_out.auto.list)
        | else-is_seen w ↦
            running_same (sizes_of a.caller) a.pools.now first a.live_places.now cs w.list-is w.index-is
            (running_past (sizes_of a.caller) a.pools.now first a.live_places.now cs from.invariant.1 among _
            (stands_split from.invariant.0 some _ refl) (sym c.is_seen.ensures ∙ w.if-is_seen.false))
      ],
    )

pub returns : goal.returns
returns c =
    let a = c.args in
    let run = c.loop-place.invariant.1 in
    let cs : List Command = take a.k (commands_at a.at a.script.now) in (
      carried_all (sizes_of a.caller) a.pools.now _ a.live_places.now cs run.carried
          (omega (arith, c.loop-place-test.false, length-take a.k (commands_at a.at a.script.now))),
      run.fits,
      running_few (sizes_of a.caller) a.pools.now _ a.live_places.now cs run,
    )
