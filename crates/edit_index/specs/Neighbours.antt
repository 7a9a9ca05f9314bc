-- The records of an index beside a place, where one record may be left out: those that PUT and MOVE look at for overlap
-- (02, W-204). Laws: proofs/NeighbourLaws.antt. Assumes nothing.
use Rattle.std.specs.Prelude.{ℕ, zero, suc, Bool, true, false, ◌&&◌, ◌||◌, leb, ltb, get_or}
use Rattle.eit.specs.Overlap.{overlap}
use Rattle.eit.specs.declared.Record.{Record}
use Rattle.edit_index.specs.Order.{slot_in}
use Rattle.edit_index.specs.Index.{slot_record}
use Rattle.edit_index.specs.Index.{Index}

-- where record i of the others stands, if the record in place `own` is left out
abbrev pub other_at : ℕ → ℕ → ℕ
other_at own i = elim (leb own i) [ true ↦ suc i | false ↦ i ]

-- an event overlaps record i of the others
abbrev pub overlaps_at : Record → Index → ℕ → ℕ → Bool
overlaps_at r x own i =
    ltb (other_at own i) x.count && overlap r (slot_record x.slots (slot_in (get_or x.order (other_at own i) 0)))

-- it overlaps the one before a place of the others, or the one behind it
abbrev pub overlaps_neighbour : Record → Index → ℕ → ℕ → Bool
overlaps_neighbour r x own zero = overlaps_at r x own zero
overlaps_neighbour r x own (suc p) = overlaps_at r x own p || overlaps_at r x own (suc p)
