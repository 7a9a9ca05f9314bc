-- A pass that notes for each command whether it is an UNDO leaves a set with just the places of UNDOs, and so does one
-- that ends at an UNDO with nothing to strike, if there is none. By induction over the commands. Assumes nothing.
use mathlib.Core.Path.{◌≡◌, refl, ap, ap₂, ◌∙◌}
use mathlib.Core.Bool.{Bool, true, false, not}
use mathlib.Core.List.{List, [], ◌∷◌}
use Prim.Native.Nat.{ℕ, zero, suc, ◌+◌, ◌-◌, ◌*◌, ◌≤◌, ◌<◌}
use native.Mathlib.Omega.{arith}
use lib.Dec.{T, eqb}
use lib.ListN.{length, get_or, take, drop}
use lib.Seq.{take-nil}
use Rattle.std.specs.Prelude.{Some}
use Rattle.codec.specs.Seen.{is_seen}
use Rattle.script.specs.Form.{Edit, Command, do_edit, undo, operand_bytes, command_of}
use Rattle.script.specs.Struck.{unstruck, unstruck_in, strike}
use Rattle.edit_scan.specs.Places.{is_undo, begins_undo, UndoPlaces, with_place, undos_noted, striking_noted}
use Rattle.edit_scan.specs.Commands.{is_whole_at, whole_code_at, commands_at}
use Rattle.edit_scan.proofs.CommandLaws.{whole_holds, code_is, next_is, commands_next, commands_stop, is_undo_holds}
use Rattle.edit_scan.proofs.PartLaws.{take_more}
use Rattle.edit_scan.proofs.PlaceLaws.{place_length, place_same, place_other}

-- places before the first stay as they are
noted_before : (places : List ℕ) (i : ℕ) (cs : List Command) (n : ℕ) → n < i
    → is_seen (undos_noted places i cs) n ≡ is_seen places n
noted_before places i [] n h = refl
noted_before places i (c ∷ cs) n h =
    noted_before (with_place places i (is_undo c)) (suc i) cs n (omega arith)
    ∙ place_other places i (is_undo c) n (λ same. omega arith)

-- n is i plus the number of commands before the one that is asked for
noted_from : (places : List ℕ) (i : ℕ) (cs : List Command) → i + length cs ≤ 64 * length places
    → (m n : ℕ) → n ≡ i + m → m < length cs
    → is_seen (undos_noted places i cs) n ≡ begins_undo (drop m cs)
noted_from places i [] room m n e h = absurd (omega arith)
noted_from places i (c ∷ cs) room zero n e h =
    let here : n ≡ i = omega arith in
    rw here
    (noted_before (with_place places i (is_undo c)) (suc i) cs i (omega arith)
    ∙ place_same places i (is_undo c) (omega arith))
noted_from places i (c ∷ cs) room (suc m) n e h =
    noted_from (with_place places i (is_undo c)) (suc i) cs (omega (arith, place_length places i (is_undo c))) m n
    (omega arith)
    (omega arith)

pub noted_undos : (places : List ℕ) (cs : List Command) → length cs ≤ 64 * length places
    → UndoPlaces (undos_noted places 0 cs) cs
noted_undos places cs room m h = noted_from places 0 cs (omega arith) m m (omega arith) h

-- the same with edits that are kept before the commands
striking_from : (kept : List Edit) (places : List ℕ) (i : ℕ) (cs : List Command) (es : List Edit)
    → strike kept cs ≡ unstruck es
    → striking_noted (length kept) places i cs ≡ undos_noted places i cs
striking_from kept places i [] es h = refl
striking_from kept places i (do_edit e ∷ cs) es h =
    striking_from (e ∷ kept) (with_place places i false) (suc i) cs es h
striking_from [] places i (undo at ∷ cs) es h = let never : ◌≡◌ {A = ℕ} 0 1 = cc in absurd (omega arith)
striking_from (e ∷ kept) places i (undo at ∷ cs) es h =
    striking_from kept (with_place places i true) (suc i) cs es h

pub striking_noted_holds : (places : List ℕ) (cs : List Command) (es : List Edit) → unstruck_in cs ≡ unstruck es
    → striking_noted 0 places 0 cs ≡ undos_noted places 0 cs
unfolding unstruck_in
striking_noted_holds places cs es h = striking_from [] places 0 cs es h

-- ---- as the code goes over a script

-- k commands are left, the first at place i
module _ (places : List ℕ) (i k : ℕ) (script : List ℕ) (at : ℕ) where
  pub noted_stop : T (not (is_whole_at at script)) → undos_noted places i (take k (commands_at at script)) ≡ places
  noted_stop t = rw (commands_stop at script t, take-nil) refl

  pub noted_all : k ≡ 0 → undos_noted places i (take k (commands_at at script)) ≡ places
  noted_all none = rw none refl

  pub noted_next : (code next : ℕ) → Some code ≡ whole_code_at at script → next ≡ at + (1 + operand_bytes code) → 0 < k
      → undos_noted places i (take k (commands_at at script))
      ≡ undos_noted (with_place places i (eqb code 0x04)) (i + 1) (take (k - 1) (commands_at next script))
  noted_next code next told e some =
      let one : suc i ≡ i + 1 = omega arith in
      let c : Command = command_of (get_or script at 0) at (drop (suc at) script) in
      let whole = whole_holds at script code told in
      ap (λ (cs : List Command). undos_noted places i (take k cs))
      (commands_next at script next (next_is at script code next told e) whole)
      ∙ ap (undos_noted places i) (take_more k c (commands_at next script) some)
      ∙ ap₂ (λ (b : Bool) (n : ℕ). undos_noted (with_place places i b) n (take (k - 1) (commands_at next script)))
      (is_undo_holds at script whole code (code_is at script code told)) one
