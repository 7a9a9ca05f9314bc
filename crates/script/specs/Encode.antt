-- Commands as bytes, there to state what `form_of` reads: the laws `form_back` and `form_forth` of proofs/Form.antt (01,
-- "Edit": commands of one byte with big-endian operands of these widths in bytes). Assumes nothing.
use Rattle.std.specs.Prelude.{ℕ, ◌+◌, ◌^◌, ◌<◌, ◌≡◌, List, [], ◌∷◌, ◌++◌, length}
use Rattle.eit.specs.Fields.{big_endian}
use Rattle.eit.specs.declared.Record.{Record}
use Rattle.script.specs.Form.{Act, put, withdraw, move, Command, do_edit, undo, offset_of}

-- 0x01 PUT: id 2, start 4, duration 4, marks 1, offset 4, length 2
abbrev pub put_bytes : Record → List ℕ
put_bytes r =
    big_endian 2 r.id
    ++ big_endian 4 r.start
    ++ big_endian 4 r.duration
    ++ big_endian 1 r.marks
    ++ big_endian 4 r.offset
    ++ big_endian 2 r.chain_length

abbrev pub act_bytes : Act → List ℕ
act_bytes (put r) = 0x01 ∷ put_bytes r
act_bytes (withdraw id) = 0x02 ∷ big_endian 2 id
act_bytes (move id start) = 0x03 ∷ (big_endian 2 id ++ big_endian 4 start)

abbrev pub command_bytes : Command → List ℕ
command_bytes (do_edit e) = act_bytes e.act
command_bytes (undo at) = 0x04 ∷ []

abbrev pub script_bytes : List Command → List ℕ
script_bytes [] = []
script_bytes (c ∷ cs) = command_bytes c ++ script_bytes cs

-- the fields fit their operands
pub record PutFits (r : Record) : Type 0 where
  pub id : r.id < 256 ^ 2
  pub start : r.start < 256 ^ 4
  pub duration : r.duration < 256 ^ 4
  pub marks : r.marks < 256 ^ 1
  pub offset : r.offset < 256 ^ 4
  pub chain_length : r.chain_length < 256 ^ 2

abbrev pub ActFits : Act → Type 0
ActFits (put r) = PutFits r
ActFits (withdraw id) = id < 256 ^ 2
ActFits (move id start) = (id < 256 ^ 2) × (start < 256 ^ 4)

abbrev pub CommandFits : Command → Type 0
CommandFits (do_edit e) = ActFits e.act
CommandFits (undo at) = Unit {0}

-- commands that fit, each with the offset where it stands if the first stands at `at`
abbrev pub Placed : ℕ → List Command → Type 0
Placed at [] = Unit {0}
Placed at (c ∷ cs) = (offset_of c ≡ at) × CommandFits c × Placed (at + length (command_bytes c)) cs
