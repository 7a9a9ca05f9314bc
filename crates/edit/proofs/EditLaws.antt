-- Edit by the answers of the code's passes: one law for each return. By the four cases of the definition.
-- Assumes nothing.
use mathlib.Core.Path.{◌≡◌, refl, sym, ap, ◌∙◌, subst}
use mathlib.Core.Bool.{Bool, true, false, not}
use Prim.Native.Nat.{ℕ, ◌*◌, ◌≤◌}
use mathlib.Core.List.{List, [], ◌∷◌}
use Rattle.std.specs.Prelude.{Ok, Err}
use native.Mathlib.Omega.{arith}
use lib.Dec.{T}
use lib.ListN.{length, take}
use lib.Seq.{take_all}
use Rattle.eit.specs.declared.Sizes.{Sizes}
use Rattle.eit.specs.Pools.{Pools}
use Rattle.eit.specs.Records.{EventList}
use Rattle.eit.specs.Sound.{sound}
use Rattle.script.specs.Form.{Command, form_of}
use Rattle.script.specs.Struck.{unstruck_in, live}
use Rattle.script.specs.Edit.{edit, run, refusal}
use Rattle.script.proofs.Edit.{edit_unsound, edit_broken, edit_nothing, edit_runs}
use Rattle.edit_scan.specs.Commands.{scan_found, commands_at}
use Rattle.edit_scan.specs.Places.{UndoPlaces, striking_noted}
use Rattle.edit_answer.specs.Outcome.{outcome_of}
use Rattle.edit_answer.specs.declared.EditError.TheVariants.{Script}
use Rattle.edit_scan.specs.declared.scan.ScriptError.{ScriptError}
use Rattle.edit_scan.specs.declared.scan.ScriptError.TheVariants.{Broken, NothingToUndo}
use Rattle.edit_scan.proofs.NotedLaws.{noted_undos, striking_noted_holds}
use Rattle.edit_scan.proofs.ScanLaws.{scan_broken_is, scan_undone_form, scan_nothing_is, scan_whole_form}
use Rattle.edit_scan.proofs.ScanLaws.{scan_count_is, scan_struck_is}
use Rattle.edit.specs.Run.{run_part}
use Rattle.edit.proofs.RunLaws.{none_done}

module _ (sizes : Sizes) (pools : Pools) (list : EventList) where
  -- b is what the soundness pass says
  module _ (b : Bool) (says : b ≡ sound sizes pools list) where
    pub is_sound_holds : b ≡ true → T (sound sizes pools list)
    is_sound_holds e = subst T says (rw e tt)

    pub edit_12 : (script : List ℕ) → b ≡ false → edit sizes pools list script ≡ refusal 12 0 list
    edit_12 script e =
        let unsound : T (not (sound sizes pools list)) =
        subst (λ (s : Bool). T (not s)) says (rw e tt) in
        edit_unsound sizes pools list script unsound

  module _ (its-sound : T (sound sizes pools list)) where
    -- no byte
    pub edit_none : (script : List ℕ) → length script ≡ 0
        → edit sizes pools list script ≡ record { number = 0; value = list.count; list = list }
    unfolding form_of unstruck_in
    edit_none [] z =
        edit_runs sizes pools list [] its-sound [] [] refl refl
        ∙ none_done sizes pools list
    edit_none (b ∷ script) z = absurd (omega arith)

    module _ (script : List ℕ) where
      pub edit_3 : (at : ℕ) → scan_found (form_of script) ≡ Err (Broken at)
          → edit sizes pools list script ≡ refusal 3 at list
      edit_3 at f = edit_broken sizes pools list script its-sound at (scan_broken_is script at f)

      pub edit_4 : (at : ℕ) → scan_found (form_of script) ≡ Err (NothingToUndo at)
          → edit sizes pools list script ≡ refusal 4 at list
      edit_4 at f =
          edit_nothing sizes pools list script its-sound (commands_at 0 script) at
          (scan_undone_form script at f) (scan_nothing_is script at f)

      pub edit_script : (e : ScriptError) → scan_found (form_of script) ≡ Err e
          → edit sizes pools list script ≡ outcome_of (Err (Script e)) list.count list.buffer
      edit_script (Broken at) f = edit_3 at f
      edit_script (NothingToUndo at) f = edit_4 at f

      module _ (k : ℕ) (whole : scan_found (form_of script) ≡ Ok k) where
        pub all_commands : take k (commands_at 0 script) ≡ commands_at 0 script
        all_commands = take_all k (commands_at 0 script) (omega (arith, scan_count_is script k whole))

        -- the part that has all commands, with no UNDO behind it
        pub edit_goes_on : edit sizes pools list script ≡ run_part sizes pools list 0 k 0 script
        edit_goes_on =
            edit_runs sizes pools list script its-sound (commands_at 0 script)
            (live 0 (commands_at 0 script)) (scan_whole_form script k whole) (scan_struck_is script k whole)
            ∙ ap (λ (cs : List Command). run sizes pools list (live 0 cs)) (sym all_commands)

-- the places that the pass over the script has noted
pub edit_noted : (script : List ℕ) (k : ℕ) → scan_found (form_of script) ≡ Ok k → (places : List ℕ)
    → k ≤ 64 * length places → (noted : List ℕ) → noted ≡ striking_noted 0 places 0 (commands_at 0 script)
    → UndoPlaces noted (take k (commands_at 0 script))
edit_noted script k whole places room noted are =
    let cs : List Command = commands_at 0 script in
    let count : k ≡ length cs = scan_count_is script k whole in
    let all : take k cs ≡ cs = take_all k cs (omega arith) in
    rw (all, are, striking_noted_holds places cs (live 0 cs) (scan_struck_is script k whole))
    (noted_undos places cs (omega arith))
