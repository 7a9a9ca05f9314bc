-- The live edits of a part of a script: none if all is struck, or those of the first half and then those of the second,
-- with the UNDOs pending behind the first that pass the second. By the laws of `run` and `live`. Assumes nothing.
use mathlib.Core.Path.{◌≡◌, sym, ap, ◌∙◌, subst}
use Prim.Native.Nat.{ℕ, ◌+◌, ◌-◌, ◌≤◌}
use native.Mathlib.Omega.{arith}
use mathlib.Core.List.{List, ◌++◌}
use lib.Dec.{T}
use lib.ListN.{length, drop, take, length-take, length-drop}
use lib.Seq.{take-add}
use Rattle.eit.specs.declared.Sizes.{Sizes}
use Rattle.eit.specs.Pools.{Pools}
use Rattle.eit.specs.Records.{EventList}
use Rattle.eit.specs.Sound.{sound}
use Rattle.script.specs.Form.{Command}
use Rattle.script.specs.Struck.{live, pending_before}
use Rattle.script.specs.Edit.{Edited, run}
use Rattle.script.proofs.Struck.{live_append}
use Rattle.script.proofs.Edit.{run_append, run_sound}
use Rattle.edit_scan.specs.Commands.{commands_at, offset_behind}
use Rattle.edit_scan.proofs.PartLaws.{behind_drops}
use Rattle.edit.specs.Run.{run_part}
use Rattle.edit.proofs.PendingLaws.{live_none}
use Rattle.edit.proofs.RunLaws.{none_done, run_ends}

-- ---- the commands of a part

-- the second part begins behind the first h of k commands
module _ (script : List ℕ) (k at h mid : ℕ) (fits : h ≤ k) (there : mid ≡ offset_behind h at script) where
  behind : commands_at mid script ≡ drop h (commands_at at script)
  behind = ap (λ (i : ℕ). commands_at i script) there ∙ behind_drops script h at

  pub half_within : k ≤ length (commands_at at script) → k - h ≤ length (commands_at mid script)
  half_within within = omega (arith, ap length behind, length-drop h (commands_at at script))

  -- and the first has q UNDOs pending behind it
  live_halves : (p q : ℕ) → q ≡ pending_before p (take (k - h) (commands_at mid script))
      → live p (take k (commands_at at script))
      ≡ live q (take h (commands_at at script)) ++ live p (take (k - h) (commands_at mid script))
  live_halves p q before =
      let first : List Command = take h (commands_at at script) in
      let second : List Command = take (k - h) (commands_at mid script) in
      let both : h + (k - h) ≡ k = omega arith in
      ap (λ (n : ℕ). live p (take n (commands_at at script))) (sym both)
      ∙ ap (live p) (take-add h (k - h) (commands_at at script))
      ∙ ap (λ (cs : List Command). live p (first ++ take (k - h) cs)) (sym behind)
      ∙ live_append p first second
      ∙ ap (λ (n : ℕ). live n first ++ live p second) (sym before)

-- ---- what is carried out

module _ (sizes : Sizes) (pools : Pools) (list : EventList) (script : List ℕ) where
  module _ (p k at : ℕ) where
    -- as many UNDOs as commands strike all
    pub part_struck : k ≤ p
        → run_part sizes pools list p k at script ≡ record { number = 0; value = list.count; list = list }
    part_struck h =
        ap (run sizes pools list)
        (live_none p (take k (commands_at at script)) (omega (arith, length-take k (commands_at at script))))
        ∙ none_done sizes pools list

    -- o is what the first half comes to
    module _ (h mid : ℕ) (fits : h ≤ k) (there : mid ≡ offset_behind h at script)
        (q : ℕ) (before : q ≡ pending_before p (take (k - h) (commands_at mid script)))
        (o : Edited) (does : run_part sizes pools list q h at script ≡ o) where
      halves : run_part sizes pools list p k at script
          ≡ run sizes pools list
          (live q (take h (commands_at at script)) ++ live p (take (k - h) (commands_at mid script)))
      halves = ap (run sizes pools list) (live_halves script k at h mid fits there p q before)

      -- a refusal in the first half ends the run
      pub half_ends : (o.number ≡ 0 → ⊥) → run_part sizes pools list p k at script ≡ o
      half_ends refuses =
          halves
          ∙ run_ends sizes pools list (live q (take h (commands_at at script)))
          (live p (take (k - h) (commands_at mid script))) (λ z. refuses (sym (ap (λ (e : Edited). e.number) does) ∙ z))
          ∙ does

      -- otherwise the second half goes on with its list
      pub half_goes_on : o.number ≡ 0
          → run_part sizes pools list p k at script ≡ run_part sizes pools o.list p (k - h) mid script
      half_goes_on z =
          halves
          ∙ run_append sizes pools list (live q (take h (commands_at at script)))
          (live p (take (k - h) (commands_at mid script))) (ap (λ (e : Edited). e.number) does ∙ z)
          ∙ ap (λ (e : Edited). run_part sizes pools e.list p (k - h) mid script) does

    -- a part leaves a sound list
    pub part_sound : (o : Edited) → run_part sizes pools list p k at script ≡ o
        → T (sound sizes pools list)
        → T (sound sizes pools o.list)
    part_sound o does t =
        subst (λ (x : Edited). T (sound sizes pools x.list)) does
        (run_sound sizes pools list (live p (take k (commands_at at script))) t)
