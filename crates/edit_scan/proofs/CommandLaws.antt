-- A script is read command by command: where a whole command stands, the commands from there on are this one and those
-- behind its operands, elsewhere there are none; and so goes the form of the rest of a script.
--
-- In order: the commands of a script with a form; whole commands; the form from an offset on; edits and UNDOs.
-- Assumes nothing.
use mathlib.Core.Path.{◌≡◌, refl, sym, ap, ◌∙◌}
use mathlib.Core.Bool.{true, false, not}
use mathlib.Core.Logic.{⊎_elim}
use mathlib.Core.List.{List, [], ◌∷◌}
use Prim.Native.Nat.{ℕ, zero, suc, ◌+◌, ◌-◌, ◌*◌, ◌/◌, ◌%◌, ◌^◌, ◌≤◌, ◌<◌}
use native.Mathlib.Nat.{zero-add}
use native.Mathlib.Omega.{arith}
use Rattle.std.specs.Prelude.{None, Some, Result, Ok, Err}
use lib.Dec.{T, eqb, ltb, leb, ltb→lt}
use lib.ListN.{length, get_or, drop, length-drop, drop_of_length-le}
use lib.Seq.{drop-cons, drop-drop}
use borrow.Author.Tests.{lt-ltb, le-ltb, ne_eqb}
use Rattle.eit.proofs.Test.{and_left, and_right, true_is, false_is, test_or, le_or_lt}
use Rattle.script.specs.Form.{Edit, Command, do_edit, undo, is_command, operand_bytes, command_of, is_whole}
use Rattle.script.specs.Form.{Form, commands, broken, before, form_from, form_of, offset_of}
use Rattle.script.proofs.Form.{whole_room, form_whole, form_broken, by_code, before_only}
use Rattle.edit_scan.specs.Commands.{form_found, is_whole_at, whole_code_at, whole_from, commands_at}
use Rattle.edit_scan.specs.Places.{is_undo}
use Rattle.edit_scan.specs.declared.scan.ScriptError.{ScriptError}
use Rattle.edit_scan.specs.declared.scan.ScriptError.TheVariants.{Broken}

-- ---- the commands of a script with a form

whole_form : (skip at : ℕ) (bs : List ℕ) (cs : List Command) → form_from skip at bs ≡ commands cs
    → whole_from skip at bs ≡ cs
whole_form zero at [] cs h = cc
whole_form (suc skip) at [] cs h = cc
whole_form (suc skip) at (b ∷ bs) cs h = whole_form skip (suc at) bs cs h
whole_form zero at (code ∷ bs) cs h =
    ⊎_elim
    (λ whole.
    let k : ℕ = operand_bytes code in
    let c : Command = command_of code at bs in
    let read : before c (form_from k (suc at) bs) ≡ commands cs = rw (form_from, true_is (is_whole code bs) whole) at h in
    let (ds, tail, split) = before_only c (form_from k (suc at) bs) cs read in
    let rest : whole_from k (suc at) bs ≡ ds = whole_form k (suc at) bs ds tail in
    rw (whole_from, true_is (is_whole code bs) whole) (cc))
    (λ t. let never : ◌≡◌ {A = ℕ} 0 1 = cc (form_broken code at bs t) in absurd (omega arith))
    (test_or (is_whole code bs))

pub commands_are : (script : List ℕ) (cs : List Command) → form_of script ≡ commands cs → commands_at 0 script ≡ cs
unfolding form_of commands_at
commands_are script cs h = whole_form 0 0 script cs h

-- ---- whole commands

-- operands are skipped
whole_skip : (k at : ℕ) (bs : List ℕ) → k ≤ length bs → whole_from k at bs ≡ whole_from 0 (k + at) (drop k bs)
whole_skip zero at bs h = rw zero-add
whole_skip (suc k) at [] h = absurd (omega arith)
whole_skip (suc k) at (b ∷ bs) h =
    let e : k + suc at ≡ suc k + at = omega arith in
    rw (← e) (whole_skip k (suc at) bs (omega arith))

whole_first : (code at : ℕ) (bs : List ℕ)
    → T (is_whole code bs)
    → whole_from 0 at (code ∷ bs)
    ≡ command_of code at bs ∷ whole_from 0 (at + 1 + operand_bytes code) (drop (operand_bytes code) bs)
whole_first code at bs whole =
    let next : operand_bytes code + suc at ≡ at + 1 + operand_bytes code = omega arith in
    rw (
      whole_from,
      true_is (is_whole code bs) whole,
      whole_skip (operand_bytes code) (suc at) bs (whole_room code bs whole),
      next,
    )

whole_none : (code at : ℕ) (bs : List ℕ) → T (not (is_whole code bs)) → whole_from 0 at (code ∷ bs) ≡ []
whole_none code at bs t = rw (whole_from, false_is (is_whole code bs) t)

-- the form of the rest of a script that has n commands in front
abbrev pub form_after : ℕ → Form → Result ℕ ScriptError
form_after n (commands cs) = Ok (n + length cs)
form_after n (broken at) = Err (Broken at)

pub after_none : (form : Form) → form_found form ≡ form_after 0 form
after_none (commands cs) = rw zero-add
after_none (broken at) = refl

after_more : (n : ℕ) (c : Command) (form : Form) → form_after n (before c form) ≡ form_after (n + 1) form
after_more n c (commands cs) =
    let one : n + suc (length cs) ≡ n + 1 + length cs = omega arith in
    ap Ok one
after_more n c (broken at) = refl

module _ (at : ℕ) (script : List ℕ) where
  -- the command's byte lies in the script, and so do its operands
  pub whole_here : T (is_whole_at at script) → at < length script
  whole_here whole =
      ltb→lt at (length script)
      (and_left (ltb at (length script)) (is_whole (get_or script at 0) (drop (suc at) script)) whole)

  pub whole_is : T (is_whole_at at script) → T (is_whole (get_or script at 0) (drop (suc at) script))
  whole_is whole = and_right (ltb at (length script)) (is_whole (get_or script at 0) (drop (suc at) script)) whole

  pub whole_inside : T (is_whole_at at script) → at + 1 + operand_bytes (get_or script at 0) ≤ length script
  whole_inside whole =
      let room : operand_bytes (get_or script at 0) ≤ length script - suc at =
      rw length-drop at (whole_room (get_or script at 0) (drop (suc at) script) (whole_is whole)) in
      omega (arith, whole_here whole)

  -- what the code's tests say
  pub whole_beyond : length script ≤ at → is_whole_at at script ≡ false
  whole_beyond h = rw (le-ltb at (length script) h)

  pub whole_unknown : at < length script → is_command (get_or script at 0) ≡ false → is_whole_at at script ≡ false
  whole_unknown h e = rw (lt-ltb at (length script) h, e)

  pub whole_known : at < length script
      → is_command (get_or script at 0) ≡ true
      → is_whole_at at script ≡ leb (operand_bytes (get_or script at 0)) (length script - at - 1)
  whole_known h e =
      let left : length script - suc at ≡ length script - at - 1 = omega arith in
      rw (lt-ltb at (length script) h, e, length-drop, left)

  -- what the code is told: the byte there, of a whole command
  pub code_is : (code : ℕ) → Some code ≡ whole_code_at at script → code ≡ get_or script at 0
  code_is code e =
      ⊎_elim (λ whole. cc (true_is (is_whole_at at script) whole)) (λ t. cc (false_is (is_whole_at at script) t))
      (test_or (is_whole_at at script))

  pub whole_holds : (code : ℕ) → Some code ≡ whole_code_at at script → T (is_whole_at at script)
  whole_holds code e =
      ⊎_elim (λ whole. whole) (λ t. absurd (cc (false_is (is_whole_at at script) t))) (test_or (is_whole_at at script))

  -- and the offset behind its operands, as the code goes on
  pub next_is : (code next : ℕ) → Some code ≡ whole_code_at at script → next ≡ at + (1 + operand_bytes code)
      → next ≡ at + (1 + operand_bytes (get_or script at 0))
  next_is code next told e = e ∙ ap (λ (k : ℕ). at + (1 + operand_bytes k)) (code_is code told)

  pub whole_fails : None ≡ whole_code_at at script → T (not (is_whole_at at script))
  whole_fails e =
      ⊎_elim (λ whole. absurd (cc (true_is (is_whole_at at script) whole))) (λ t. t) (test_or (is_whole_at at script))

  -- a byte of the script with no whole command at it
  truncated_is : at < length script → T (not (is_whole_at at script))
      → T (not (is_whole (get_or script at 0) (drop (suc at) script)))
  truncated_is h t = rw (lt-ltb at (length script) h) at t

  behind : drop (operand_bytes (get_or script at 0)) (drop (suc at) script)
      ≡ drop (at + 1 + operand_bytes (get_or script at 0)) script
  behind =
      let next : suc at + operand_bytes (get_or script at 0) ≡ at + 1 + operand_bytes (get_or script at 0) = omega arith in
      rw (drop-drop (operand_bytes (get_or script at 0)) (suc at) script, next)

  pub commands_whole : T (is_whole_at at script)
      → commands_at at script
      ≡ command_of (get_or script at 0) at (drop (suc at) script) ∷ commands_at (at + 1 + operand_bytes (get_or script at 0))
      script
  unfolding commands_at
  commands_whole whole =
      rw (drop-cons script at 0 (whole_here whole))
      (whole_first (get_or script at 0) at (drop (suc at) script) (whole_is whole) ∙ rw behind)

  -- the same, where the code goes on
  pub commands_next : (next : ℕ)
      → next ≡ at + (1 + operand_bytes (get_or script at 0))
      → T (is_whole_at at script)
      → commands_at at script ≡ command_of (get_or script at 0) at (drop (suc at) script) ∷ commands_at next script
  commands_next next e whole =
      let same : at + 1 + operand_bytes (get_or script at 0) ≡ next = omega arith in
      rw same at (commands_whole whole)

  pub commands_stop : T (not (is_whole_at at script)) → commands_at at script ≡ []
  unfolding commands_at
  commands_stop t =
      ⊎_elim (λ h. rw (drop_of_length-le script h))
      (λ h. rw (drop-cons script at 0 h) (whole_none (get_or script at 0) at (drop (suc at) script) (truncated_is h t)))
      (le_or_lt (length script) at)

  -- ---- the form from an offset on

  pub form_here : (next : ℕ)
      → next ≡ at + (1 + operand_bytes (get_or script at 0))
      → T (is_whole_at at script)
      → form_from 0 at (drop at script)
      ≡ before (command_of (get_or script at 0) at (drop (suc at) script)) (form_from 0 next (drop next script))
  form_here next e whole =
      let code : ℕ = get_or script at 0 in
      let same : at + 1 + operand_bytes code ≡ next = omega arith in
      rw (
        drop-cons script at 0 (whole_here whole),
        form_whole code at (drop (suc at) script) (whole_is whole),
        behind,
        same,
      )

  pub form_next : (code next : ℕ) → Some code ≡ whole_code_at at script → next ≡ at + (1 + operand_bytes code) → (n : ℕ)
      → form_after n (form_from 0 at (drop at script)) ≡ form_after (n + 1) (form_from 0 next (drop next script))
  form_next code next told e n =
      ap (form_after n) (form_here next (next_is code next told e) (whole_holds code told))
      ∙ after_more n (command_of (get_or script at 0) at (drop (suc at) script)) (form_from 0 next (drop next script))

  pub form_stop : at < length script → T (not (is_whole_at at script)) → form_from 0 at (drop at script) ≡ broken at
  form_stop h t =
      rw (drop-cons script at 0 h) (form_broken (get_or script at 0) at (drop (suc at) script) (truncated_is h t))

  pub form_all : length script ≤ at → form_from 0 at (drop at script) ≡ commands []
  form_all h = rw (drop_of_length-le script h)

-- ---- edits and UNDOs

pub edit_of_holds : (at : ℕ) (bs : List ℕ) (code : ℕ) → T (is_command code) → (code ≡ 0x04 → ⊥)
    → (e : Edit) × (command_of code at bs ≡ do_edit e)
edit_of_holds at bs =
    by_code (λ code. (code ≡ 0x04 → ⊥) → (e : Edit) × (command_of code at bs ≡ do_edit e)) (λ n. (_, refl))
    (λ n. (_, refl)) (λ n. (_, refl))
    (λ n. absurd (n refl))

-- of a whole command its code tells
module _ (at : ℕ) (script : List ℕ) (whole : T (is_whole_at at script)) where
  known : T (is_command (get_or script at 0))
  known =
      let code : ℕ = get_or script at 0 in
      and_left (is_command code) (leb (operand_bytes code) (length (drop (suc at) script))) (whole_is at script whole)

  pub is_undo_holds : (code : ℕ) → code ≡ get_or script at 0
      → is_undo (command_of (get_or script at 0) at (drop (suc at) script)) ≡ eqb code 0x04
  is_undo_holds code is =
      by_code (λ (k : ℕ). is_undo (command_of k at (drop (suc at) script)) ≡ eqb k 0x04) refl refl refl refl
      (get_or script at 0) known
      ∙ ap (λ (k : ℕ). eqb k 0x04) (sym is)

  pub offset_is : offset_of (command_of (get_or script at 0) at (drop (suc at) script)) ≡ at
  offset_is =
      by_code (λ (k : ℕ). offset_of (command_of k at (drop (suc at) script)) ≡ at) refl refl refl refl
      (get_or script at 0) known

pub undo_of : (at : ℕ) (bs : List ℕ) (code : ℕ) → code ≡ 0x04 → command_of code at bs ≡ undo at
undo_of at bs code e = ap (λ (k : ℕ). command_of k at bs) e

module _ (at : ℕ) (script : List ℕ) (next : ℕ) (e : next ≡ at + (1 + operand_bytes (get_or script at 0)))
    (whole : T (is_whole_at at script)) where
  pub commands_edit : (get_or script at 0 ≡ 0x04 → ⊥)
      → (f : Edit) × (commands_at at script ≡ do_edit f ∷ commands_at next script)
  commands_edit n =
      let (f, is) = edit_of_holds at (drop (suc at) script) (get_or script at 0) (known at script whole) n in
      (f, commands_next at script next e whole ∙ ap (λ (c : Command). c ∷ commands_at next script) is)

  pub commands_undo : get_or script at 0 ≡ 0x04 → commands_at at script ≡ undo at ∷ commands_at next script
  commands_undo h =
      commands_next at script next e whole
      ∙ ap (λ (c : Command). c ∷ commands_at next script) (undo_of at (drop (suc at) script) (get_or script at 0) h)

-- any other byte than those of the edits
module _ (code : ℕ) (p : code ≡ 0x01 → ⊥) (w : code ≡ 0x02 → ⊥) (m : code ≡ 0x03 → ⊥) where
  pub other_operands : operand_bytes code ≡ 0
  other_operands = rw (operand_bytes, ne_eqb code 0x01 p, ne_eqb code 0x02 w, ne_eqb code 0x03 m)

  pub other_command : (at : ℕ) (bs : List ℕ) → command_of code at bs ≡ undo at
  other_command at bs = rw (command_of, ne_eqb code 0x01 p, ne_eqb code 0x02 w, ne_eqb code 0x03 m)

-- each code's operand bytes, packed in one number of eight bits for each
pub packed_operands : (code : ℕ) → code ≤ 0x04 → 0x00_06_02_11_00 / 2 ^ (8 * code) % 256 ≡ operand_bytes code
packed_operands zero h = refl
packed_operands (suc zero) h = refl
packed_operands (suc (suc zero)) h = refl
packed_operands (suc (suc (suc zero))) h = refl
packed_operands (suc (suc (suc (suc zero)))) h = refl
packed_operands (suc (suc (suc (suc (suc code))))) h = absurd (omega arith)
