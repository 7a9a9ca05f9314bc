-- `edit` meets its contract: each return by its own law of EditLaws, from the answers of the passes. Assumes nothing.
use Rattle.std.proofs.Common.{◌≡◌, ℕ, Bool, true, T, arith, ap}
use mathlib.Core.Path.{sym, ◌∙◌}
use lib.ListN.{replicate, length-replicate}
use Rattle.eit.specs.declared.Sizes.{Sizes}
use Rattle.eit.specs.declared.Caller.{Caller}
use Rattle.eit.specs.Pools.{Pools}
use Rattle.eit.specs.Records.{EventList, lent_list}
use Rattle.eit.specs.Sizes.{sizes_of}
use Rattle.eit.specs.Sound.{sound}
use Rattle.std.proofs.lemmas.Bool.Decides.{nat_tests}
use Rattle.std.proofs.lemmas.Result.{err_from_is_err_and}
use Rattle.edit_scan.proofs.ScanLaws.{scan_count_is}
use Rattle.edit.proofs.EditLaws.{is_sound_holds, edit_12, edit_none, edit_script, edit_goes_on, edit_noted}
use Rattle.edit.proofs.edit.Goals as goal

-- what the soundness pass says, under the sizes of the caller
module _ (caller : Caller) (pools : Pools) (list : EventList) {b : Bool} {sizes : Sizes}
    (says : b ≡ sound sizes pools list) (its : sizes ≡ sizes_of caller) where
  under : b ≡ sound (sizes_of caller) pools list
  under = says ∙ ap (λ (s : Sizes). sound s pools list) its

  sounds : b ≡ true → T (sound (sizes_of caller) pools list)
  sounds e = is_sound_holds (sizes_of caller) pools list b under e

pub returns-then-not-is_sound : goal.returns-then-not-is_sound
returns-then-not-is_sound c =
    edit_12 (sizes_of c.args.caller) c.args.pools.now (lent_list c.args.list.now c.args.count.now) c.is_sound.result
    (under c.args.caller _ _ c.is_sound.ensures c.from.ensures) c.args.script.now c.if-not-is_sound.true

pub returns-then-is_empty : goal.returns-then-is_empty
returns-then-is_empty c =
    edit_none (sizes_of c.args.caller) c.args.pools.now (lent_list c.args.list.now c.args.count.now)
    (sounds c.args.caller _ _ c.is_sound.ensures c.from.ensures c.if-not-is_sound.false) c.args.script.now (grind (arith, nat_tests))

pub returns-in_err-k : goal.returns-in_err-k
returns-in_err-k c =
    let p = err_from_is_err_and c.from_residual.result c.from_residual.ensures.1 in
    rw (p.1, p.2)
    (edit_script (sizes_of c.args.caller) c.args.pools.now (lent_list c.args.list.now c.args.count.now)
    (sounds c.args.caller _ _ c.is_sound.ensures c.from.ensures c.if-not-is_sound.false) c.args.script.now c.in_err-k.field-0.0
    (sym c.in_err-k.ensures.0))

pub run_noted-requires : goal.run_noted-requires
run_noted-requires c =
    let whole = sym c.in_ok-k.ensures.0 in (
      sounds c.args.caller _ _ c.is_sound.ensures c.from.ensures c.if-not-is_sound.false,
      omega (arith, scan_count_is c.args.script.now c.in_ok-k.k whole),
      c.if-k-le-PLACES.true,
      omega arith,
      omega (arith, length-replicate {A = ℕ} 4_096 0),
      edit_noted c.args.script.now _ whole (replicate {A = ℕ} 4_096 0) (omega (arith, length-replicate {A = ℕ} 4_096 0))
          _ c.in_ok-k.ensures.1,
    )

pub returns-then-k-le-PLACES : goal.returns-then-k-le-PLACES
returns-then-k-le-PLACES c =
    edit_goes_on (sizes_of c.args.caller) c.args.pools.now (lent_list c.args.list.now c.args.count.now)
    (sounds c.args.caller _ _ c.is_sound.ensures c.from.ensures c.if-not-is_sound.false) c.args.script.now c.in_ok-k.k
    (sym c.in_ok-k.ensures.0)
    ∙ c.run_noted.ensures

pub run_part-requires : goal.run_part-requires
run_part-requires c = (
  sounds c.args.caller _ _ c.is_sound.ensures c.from.ensures c.if-not-is_sound.false,
  omega (arith, scan_count_is c.args.script.now c.in_ok-k.k (sym c.in_ok-k.ensures.0)),
  omega (arith, length-replicate {A = ℕ} 4_096 0),
)

pub returns : goal.returns
returns c =
    edit_goes_on (sizes_of c.args.caller) c.args.pools.now (lent_list c.args.list.now c.args.count.now)
    (sounds c.args.caller _ _ c.is_sound.ensures c.from.ensures c.if-not-is_sound.false) c.args.script.now c.in_ok-k.k
    (sym c.in_ok-k.ensures.0)
    ∙ c.run_part.ensures
