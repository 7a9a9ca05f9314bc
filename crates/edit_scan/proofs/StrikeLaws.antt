-- What the pass over a script counts: of the commands in front only their number and the number of kept edits matter,
-- and with each command that is passed the latter is one more (an edit) or one less (an UNDO). Assumes nothing.
use mathlib.Core.Path.{◌≡◌, refl, sym, ap, ap₂, ◌∙◌}
use mathlib.Core.Bool.{Bool, true, false, not}
use mathlib.Core.List.{List, [], ◌∷◌}
use Prim.Native.Nat.{ℕ, zero, suc, ◌+◌, ◌-◌, ◌*◌, ◌≤◌, ◌<◌}
use native.Mathlib.Nat.{add-zero, zero-add}
use native.Mathlib.Omega.{arith}
use mir.Val.{bool_byte}
use Rattle.std.specs.Prelude.{Some, Result, Ok, Err}
use lib.Dec.{T, eqb}
use lib.ListN.{length, get_or, drop}
use Rattle.script.specs.Form.{Edit, Command, do_edit, undo, operand_bytes, command_of}
use Rattle.script.specs.Form.{Form, commands, broken, before, form_from, form_of, offset_of}
use Rattle.script.specs.Struck.{Unstruck, unstruck, nothing_at, unstruck_in, strike}
use Rattle.edit_scan.specs.Commands.{form_found, strikes_found, nothing_found, scan_found, is_whole_at, whole_code_at}
use Rattle.edit_scan.specs.Commands.{commands_at}
use Rattle.edit_scan.specs.Places.{is_undo, with_place, striking_noted}
use Rattle.edit_scan.specs.declared.scan.ScriptError.{ScriptError}
use Rattle.edit_scan.specs.declared.scan.ScriptError.TheVariants.{Broken, NothingToUndo}
use Rattle.edit_scan.proofs.CommandLaws.{whole_holds, code_is, next_is, commands_next, commands_stop, form_here}
use Rattle.edit_scan.proofs.CommandLaws.{is_undo_holds, offset_is}

pub byte_few : (b : Bool) → bool_byte b ≤ 1
byte_few true = omega arith
byte_few false = omega arith

-- ---- what is found, with n commands in front and `kept` of their edits not yet struck

abbrev strikes_after : ℕ → ℕ → List Command → Result ℕ ScriptError
strikes_after kept n [] = Ok n
strikes_after kept n (do_edit e ∷ cs) = strikes_after (suc kept) (suc n) cs
strikes_after zero n (undo at ∷ cs) = Err (NothingToUndo at)
strikes_after (suc kept) n (undo at ∷ cs) = strikes_after kept (suc n) cs

abbrev pub scan_after : ℕ → ℕ → Form → Result ℕ ScriptError
scan_after kept n (commands cs) = strikes_after kept n cs
scan_after kept n (broken at) = Err (Broken at)

strikes_count : (kept : List Edit) (n : ℕ) (cs : List Command)
    → strikes_found (n + length cs) (strike kept cs) ≡ strikes_after (length kept) n cs
strikes_count kept n [] = ap Ok (add-zero n)
strikes_count kept n (do_edit e ∷ cs) =
    let one : n + suc (length cs) ≡ suc n + length cs = omega arith in
    rw one (strikes_count (e ∷ kept) (suc n) cs)
strikes_count [] n (undo at ∷ cs) = refl
strikes_count (e ∷ kept) n (undo at ∷ cs) =
    let one : n + suc (length cs) ≡ suc n + length cs = omega arith in
    rw one (strikes_count kept (suc n) cs)

pub scan_all : (form : Form) → scan_found form ≡ scan_after 0 0 form
unfolding unstruck_in
scan_all (commands cs) =
    ap (λ (n : ℕ). strikes_found n (strike [] cs)) (sym (zero-add (length cs))) ∙ strikes_count [] 0 cs
scan_all (broken at) = refl

-- ---- one command on

-- as the code counts the edits that are kept: 1 for an UNDO and 0 for an edit
abbrev pub kept_after : ℕ → Bool → ℕ
kept_after kept b = kept + 1 - 2 * bool_byte b

kept_more : (kept : ℕ) → suc kept ≡ kept_after kept false
kept_more kept = omega arith

kept_less : (kept : ℕ) → kept ≡ kept_after (suc kept) true
kept_less kept = omega arith

scan_on : (kept n : ℕ) (c : Command) (form : Form) → bool_byte (is_undo c) ≤ kept
    → scan_after kept n (before c form) ≡ scan_after (kept_after kept (is_undo c)) (n + 1) form
scan_on kept n c (broken at) h = refl
scan_on kept n (do_edit e) (commands cs) h =
    ap₂ (λ (a b : ℕ). strikes_after a b cs) (kept_more kept) (omega arith)
scan_on zero n (undo at) (commands cs) h = absurd (omega arith)
scan_on (suc kept) n (undo at) (commands cs) h =
    ap₂ (λ (a b : ℕ). strikes_after a b cs) (kept_less kept) (omega arith)

noted_on : (kept : ℕ) (places : List ℕ) (n : ℕ) (c : Command) (cs : List Command) → bool_byte (is_undo c) ≤ kept
    → striking_noted kept places n (c ∷ cs)
    ≡ striking_noted (kept_after kept (is_undo c)) (with_place places n (is_undo c)) (n + 1) cs
noted_on kept places n (do_edit e) cs h =
    ap₂ (λ (a b : ℕ). striking_noted a (with_place places n false) b cs) (kept_more kept) (omega arith)
noted_on zero places n (undo at) cs h = absurd (omega arith)
noted_on (suc kept) places n (undo at) cs h =
    ap₂ (λ (a b : ℕ). striking_noted a (with_place places n true) b cs) (kept_less kept) (omega arith)

-- ---- an UNDO with nothing to strike

scan_ends : (kept n : ℕ) (c : Command) (form : Form) → kept < bool_byte (is_undo c)
    → scan_after kept n (before c form) ≡ Err (nothing_found (offset_of c) form)
scan_ends kept n c (broken at) h = refl
scan_ends kept n (do_edit e) (commands cs) h = absurd (omega arith)
scan_ends zero n (undo at) (commands cs) h = refl
scan_ends (suc kept) n (undo at) (commands cs) h = absurd (omega arith)

noted_ends : (kept : ℕ) (places : List ℕ) (n : ℕ) (c : Command) (cs : List Command) → kept < bool_byte (is_undo c)
    → striking_noted kept places n (c ∷ cs) ≡ places
noted_ends kept places n (do_edit e) cs h = absurd (omega arith)
noted_ends zero places n (undo at) cs h = refl
noted_ends (suc kept) places n (undo at) cs h = absurd (omega arith)

-- as the form says: 3, or 4 at the UNDO
pub unless_3 : (undo-at : ℕ) (form : Form) (at : ℕ) → form_found form ≡ Err (Broken at)
    → nothing_found undo-at form ≡ Broken at
unless_3 undo-at (commands cs) at e = cc
unless_3 undo-at (broken there) at e = cc

pub unless_4 : (undo-at : ℕ) (form : Form) (k : ℕ) → form_found form ≡ Ok k
    → nothing_found undo-at form ≡ NothingToUndo undo-at
unless_4 undo-at (commands cs) k e = refl
unless_4 undo-at (broken there) k e = cc

-- commands are never broken
pub struck_never : (k at : ℕ) (u : Unstruck) → strikes_found k u ≡ Err (Broken at) → ⊥
struck_never k at (unstruck es) e = let never : ◌≡◌ {A = ℕ} 0 1 = cc in omega arith
struck_never k at (nothing_at there) e = let never : ◌≡◌ {A = ℕ} 0 1 = cc in omega arith

-- so a script that has commands has no broken rest
ends_whole : (at : ℕ) (form rest : Form) → scan_found form ≡ Err (nothing_found at rest)
    → scan_found form ≡ Err (nothing_found at form)
ends_whole at (broken there) rest e = refl
ends_whole at (commands cs) (commands ds) e = e
ends_whole at (commands cs) (broken there) e = absurd (struck_never (length cs) there (unstruck_in cs) e)

-- ---- at an offset of a script, with `count` commands in front and `kept` of their edits not yet struck

module _ (kept count at : ℕ) (script : List ℕ) where
  module _ (code next : ℕ) (told : Some code ≡ whole_code_at at script) (e : next ≡ at + (1 + operand_bytes code)) where
    abbrev rest : Form
    rest = form_from 0 next (drop next script)

    abbrev here : Command
    here = command_of (get_or script at 0) at (drop (suc at) script)

    form_there : form_from 0 at (drop at script) ≡ before here rest
    form_there = form_here at script next (next_is at script code next told e) (whole_holds at script code told)

    commands_there : commands_at at script ≡ here ∷ commands_at next script
    commands_there = commands_next at script next (next_is at script code next told e) (whole_holds at script code told)

    undo_told : is_undo here ≡ eqb code 0x04
    undo_told = is_undo_holds at script (whole_holds at script code told) code (code_is at script code told)

    -- an edit, or an UNDO that has something to strike
    module _ (enough : bool_byte (eqb code 0x04) ≤ kept) where
      counted : bool_byte (is_undo here) ≤ kept
      counted = rw undo_told enough

      pub scan_next : scan_after kept count (form_from 0 at (drop at script))
          ≡ scan_after (kept_after kept (eqb code 0x04)) (count + 1) rest
      scan_next =
          ap (scan_after kept count) form_there
          ∙ scan_on kept count here rest counted
          ∙ ap (λ (b : Bool). scan_after (kept_after kept b) (count + 1) rest) undo_told

      pub striking_next : (places : List ℕ)
          → striking_noted kept places count (commands_at at script)
          ≡ striking_noted (kept_after kept (eqb code 0x04)) (with_place places count (eqb code 0x04)) (count + 1)
          (commands_at next script)
      striking_next places =
          ap (striking_noted kept places count) commands_there
          ∙ noted_on kept places count here (commands_at next script) counted
          ∙ ap (λ (b : Bool). striking_noted (kept_after kept b) (with_place places count b) (count + 1)
          (commands_at next script))
          undo_told

    -- an UNDO with nothing to strike
    module _ (short : kept < bool_byte (eqb code 0x04)) where
      unmet : kept < bool_byte (is_undo here)
      unmet = rw undo_told short

      pub scan_nothing : scan_found (form_of script) ≡ scan_after kept count (form_from 0 at (drop at script))
          → Err (nothing_found at (form_of script)) ≡ scan_found (form_of script)
      scan_nothing says =
          sym (ends_whole at (form_of script) rest
          (says
          ∙ ap (scan_after kept count) form_there
          ∙ scan_ends kept count here rest unmet
          ∙ ap (λ (n : ℕ). Err (nothing_found n rest)) (offset_is at script (whole_holds at script code told))))

      pub striking_nothing : (places : List ℕ) → striking_noted kept places count (commands_at at script) ≡ places
      striking_nothing places =
          ap (striking_noted kept places count) commands_there
          ∙ noted_ends kept places count here (commands_at next script) unmet

  -- no whole command
  pub striking_stop : (places : List ℕ) → T (not (is_whole_at at script))
      → striking_noted kept places count (commands_at at script) ≡ places
  striking_stop places t = rw (commands_stop at script t) refl
