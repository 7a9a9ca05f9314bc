-- The form of a script (01, "Edit": a script is commands of one byte with big-endian operands). Laws: proofs/Form.antt.
-- Assumes nothing.
use Rattle.std.specs.Prelude.{ℕ, zero, suc, Bool, true, false, ◌&&◌, List, [], ◌∷◌, leb, eqb, length}
use Rattle.eit.specs.Fields.{field}
use Rattle.eit.specs.declared.Record.{Record}

-- what an edit does: PUT a record, WITHDRAW an id, MOVE an id to a start
pub data Act : Type 0 where
  put : Record → Act
  withdraw : ℕ → Act
  move : ℕ → ℕ → Act

-- 01's term: edit. PUT, WITHDRAW and MOVE are the edits; `at` is the offset of the command's byte
pub record Edit : Type 0 where
  pub at : ℕ
  pub act : Act

-- a command is an edit, or an UNDO at its offset
pub data Command : Type 0 where
  do_edit : Edit → Command
  undo : ℕ → Command

-- PUT: id 2, start 4, duration 4, marks 1, offset 4, length 2
abbrev pub put_record : List ℕ → Record
put_record bs =
    record {
      id = field 0 2 bs;
      start = field 2 4 bs;
      duration = field 6 4 bs;
      marks = field 10 1 bs;
      offset = field 11 4 bs;
      chain_length = field 15 2 bs;
    }

-- the four commands: 0x01 PUT, 0x02 WITHDRAW, 0x03 MOVE, 0x04 UNDO
abbrev pub is_command : ℕ → Bool
is_command code = leb 0x01 code && leb code 0x04

-- how many operand bytes a command has
abbrev pub operand_bytes : ℕ → ℕ
operand_bytes code =
    elim (eqb code 0x01) [
      | true ↦ 17
      | false ↦ elim (eqb code 0x02) [ true ↦ 2 | false ↦ elim (eqb code 0x03) [ true ↦ 6 | false ↦ 0 ] ]
    ]

-- the command of a code at an offset, with the operands at the front of bs
abbrev pub command_of : ℕ → ℕ → List ℕ → Command
command_of code at bs =
    elim (eqb code 0x01) [
      | true ↦ do_edit (record { at = at; act = put (put_record bs) })
      | false ↦ elim (eqb code 0x02) [
        | true ↦ do_edit (record { at = at; act = withdraw (field 0 2 bs) })
        | false ↦ elim (eqb code 0x03) [
          | true ↦ do_edit (record { at = at; act = move (field 0 2 bs) (field 2 4 bs) })
          | false ↦ undo at
        ]
      ]
    ]

-- a known command whose operand is not truncated
abbrev pub is_whole : ℕ → List ℕ → Bool
is_whole code bs = is_command code && leb (operand_bytes code) (length bs)

-- a script's commands, or the offset of the first unknown command or truncated operand
pub data Form : Type 0 where
  commands : List Command → Form
  broken : ℕ → Form

abbrev pub before : Command → Form → Form
before c (commands cs) = commands (c ∷ cs)
before c (broken at) = broken at

-- the rest of a script from the offset `at` on, of which the first `skip` bytes are operands of a command that has
-- begun
abbrev pub form_from : ℕ → ℕ → List ℕ → Form
form_from zero at [] = commands []
-- never met: a truncated operand is refused at its command
form_from (suc skip) at [] = commands []
form_from (suc skip) at (b ∷ bs) = form_from skip (suc at) bs
form_from zero at (code ∷ bs) =
    elim (is_whole code bs) [
      | true ↦ before (command_of code at bs) (form_from (operand_bytes code) (suc at) bs)
      | false ↦ broken at
    ]

-- the form of a script
unfoldable pub form_of : List ℕ → Form
form_of script = form_from 0 0 script

-- the offset of a command's byte
abbrev pub offset_of : Command → ℕ
offset_of (do_edit e) = e.at
offset_of (undo at) = at
