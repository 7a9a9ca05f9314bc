-- The order of an index: an entry for each record of the list, by the records' starts, and behind these one for each
-- slot that is free. An entry is put in or taken out in place, as PUT and WITHDRAW of document 01 ("Edit") do with a
-- record. Laws: proofs/OrderLaws.antt. Assumes nothing.
use Rattle.std.specs.Prelude.{ℕ, zero, suc, ◌+◌, ◌-◌, ◌*◌, ◌/◌, ◌%◌, true, false, ◌&&◌, List, [], ◌∷◌, ◌++◌, map, leb, ltb, length, get_or, take, drop}
use Rattle.eit.specs.Overwrite.{overwrite}

-- an entry is a record's start and its slot in one number, so that both move at once: start × 65,536 + slot
abbrev pub slot_numbers : ℕ
slot_numbers = 65536

abbrev pub entry_of : ℕ → ℕ → ℕ
entry_of start slot = start * slot_numbers + slot

abbrev pub start_in : ℕ → ℕ
start_in entry = entry / slot_numbers

abbrev pub slot_in : ℕ → ℕ
slot_in entry = entry % slot_numbers

abbrev pub starts_in : List ℕ → List ℕ
starts_in entries = map start_in entries

abbrev pub slots_in : List ℕ → List ℕ
slots_in entries = map slot_in entries

-- entries of all slots from a first one on, so many
abbrev pub slots_from : ℕ → ℕ → List ℕ
slots_from first zero = []
slots_from first (suc n) = first ∷ slots_from (suc first) n

-- an entry in place `place` of `count` entries, over the one behind them; where there is no such place or no room for
-- one more, all stays
unfoldable pub with_entry : List ℕ → ℕ → ℕ → ℕ → List ℕ
with_entry order count place entry =
    elim (ltb count (length order) && leb place count) [
      | true ↦ overwrite order place (entry ∷ take (count - place) (drop place order))
      | false ↦ order
    ]

-- entry `place` of `count` entries behind the others; where there is no such entry, all stays
unfoldable pub without_entry : List ℕ → ℕ → ℕ → List ℕ
without_entry order count place =
    elim (leb count (length order) && ltb place count) [
      | true ↦ overwrite order place (take (count - suc place) (drop (suc place) order) ++ (get_or order place 0 ∷ []))
      | false ↦ order
    ]

-- the slot of entry `from` of `count` entries: taken out, it is the last of them
abbrev pub moved_slot : List ℕ → ℕ → ℕ → ℕ
moved_slot order count from = slot_in (get_or (without_entry order count from) (count - 1) 0)

-- that entry in place `to` of the others, in its slot, with another start, as MOVE does with a record
abbrev pub moved_entry : List ℕ → ℕ → ℕ → ℕ → ℕ → List ℕ
moved_entry order count from to start =
    with_entry (without_entry order count from) (count - 1) to (entry_of start (moved_slot order count from))
