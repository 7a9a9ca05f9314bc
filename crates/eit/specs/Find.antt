-- Where a record of an id, or of a start, has its place among the records (01, "Edit": PUT inserts by start, WITHDRAW
-- and MOVE go by id). Laws: proofs/Find.antt. Assumes nothing.
use Rattle.std.specs.Prelude.{ℕ, suc, true, false, List, [], ◌∷◌, ltb, eqb}
use Rattle.eit.specs.declared.Record.{Record}

-- the position of the first record that has the id; behind all records if none has it
abbrev pub position_of : ℕ → List Record → ℕ
position_of id [] = 0
position_of id (r ∷ rs) = elim (eqb id r.id) [ true ↦ 0 | false ↦ suc (position_of id rs) ]

-- the place before the first record that starts later; behind all records if none does
abbrev pub place_of : ℕ → List Record → ℕ
place_of start [] = 0
place_of start (r ∷ rs) = elim (ltb start r.start) [ true ↦ 0 | false ↦ suc (place_of start rs) ]
