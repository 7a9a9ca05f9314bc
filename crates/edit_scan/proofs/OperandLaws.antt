-- A command's operands as the code reads them, behind its byte and of at most 32 bits each, are those of the model.
-- Assumes nothing.
use mathlib.Core.Path.{◌≡◌, sym, ap, ap₂, ◌∙◌}
use mathlib.Core.List.{List}
use Prim.Native.Nat.{ℕ, suc, ◌+◌, ◌-◌, ◌%◌, ◌^◌, ◌≤◌}
use native.Mathlib.Omega.{arith}
use lib.ListN.{length, get_or, take, drop, get_or-eq_default}
use Rattle.eit.specs.Fields.{Bytes, field}
use Rattle.eit.specs.declared.Record.{Record}
use Rattle.eit.proofs.Fields.{bytes_drop}
use Rattle.script.specs.Form.{put_record, command_of}
use Rattle.codec.proofs.FieldLaws.{rest_whole, field_exact}
use Rattle.edit_scan.specs.Commands.{model_command}
use Rattle.edit_scan.specs.declared.command.Command.TheVariants.{Put, Withdraw, Move, Undo}

-- the record that is read of PUT's operands
pub read_record : (bs : List ℕ) → Bytes bs → (r : Record)
    → r.id ≡ field 0 2 bs % 2 ^ 32
    → r.start ≡ field 2 4 bs % 2 ^ 32
    → r.duration ≡ field 6 4 bs % 2 ^ 32
    → r.marks ≡ field 10 1 bs % 2 ^ 32
    → r.offset ≡ field 11 4 bs % 2 ^ 32
    → r.chain_length ≡ field 15 2 bs % 2 ^ 32
    → r ≡ put_record bs
read_record bs bytes r id start duration marks offset chain =
    λ i. record {
      id = (id ∙ field_exact bs 0 2 bytes (omega arith)) i;
      start = (start ∙ field_exact bs 2 4 bytes (omega arith)) i;
      duration = (duration ∙ field_exact bs 6 4 bytes (omega arith)) i;
      marks = (marks ∙ field_exact bs 10 1 bytes (omega arith)) i;
      offset = (offset ∙ field_exact bs 11 4 bytes (omega arith)) i;
      chain_length = (chain ∙ field_exact bs 15 2 bytes (omega arith)) i;
    }

-- the part of a script behind the byte at `at`
abbrev pub part_behind : ℕ → List ℕ → List ℕ
part_behind at script = take (length script - (at + 1)) (drop (at + 1) script)

module _ (script : List ℕ) (bytes : Bytes script) (at : ℕ) where
  part_is : part_behind at script ≡ drop (suc at) script
  part_is =
      let next : at + 1 ≡ suc at = omega arith in
      rest_whole script (at + 1) ∙ rw next

  operand : (from width n : ℕ) → width ≤ 4 → n ≡ field from width (part_behind at script) % 2 ^ 32
      → n ≡ field from width (drop (suc at) script)
  operand from width n narrow e =
      e ∙ ap (λ (bs : List ℕ). field from width bs % 2 ^ 32) part_is
      ∙ field_exact (drop (suc at) script) from width (bytes_drop (suc at) script bytes) narrow

  of_code : (code : ℕ)
      → get_or script at 0 ≡ code
      → command_of code at (drop (suc at) script) ≡ command_of (get_or script at 0) at (drop (suc at) script)
  of_code code is = ap (λ (k : ℕ). command_of k at (drop (suc at) script)) (sym is)

  pub read_put : (r : Record)
      → get_or script at 0 ≡ 0x01
      → r ≡ put_record (part_behind at script)
      → model_command at (Put r) ≡ command_of (get_or script at 0) at (drop (suc at) script)
  read_put r is e = ap (λ (s : Record). model_command at (Put s)) (e ∙ ap put_record part_is) ∙ of_code 0x01 is

  pub read_withdraw : (id : ℕ)
      → get_or script at 0 ≡ 0x02
      → id ≡ field 0 2 (part_behind at script) % 2 ^ 32
      → model_command at (Withdraw id) ≡ command_of (get_or script at 0) at (drop (suc at) script)
  read_withdraw id is e =
      ap (λ (n : ℕ). model_command at (Withdraw n)) (operand 0 2 id (omega arith) e) ∙ of_code 0x02 is

  pub read_move : (id start : ℕ)
      → get_or script at 0 ≡ 0x03
      → id ≡ field 0 2 (part_behind at script) % 2 ^ 32
      → start ≡ field 2 4 (part_behind at script) % 2 ^ 32
      → model_command at (Move id start) ≡ command_of (get_or script at 0) at (drop (suc at) script)
  read_move id start is e f =
      ap₂ (λ (m n : ℕ). model_command at (Move m n)) (operand 0 2 id (omega arith) e) (operand 2 4 start (omega arith) f)
      ∙ of_code 0x03 is

-- beyond the script
pub read_beyond : (script : List ℕ) (at : ℕ)
    → length script ≤ at
    → model_command at Undo ≡ command_of (get_or script at 0) at (drop (suc at) script)
read_beyond script at h = sym (ap (λ (k : ℕ). command_of k at (drop (suc at) script)) (get_or-eq_default script 0 h))
