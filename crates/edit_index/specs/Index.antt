-- An index of a list's records: slots that hold records, the order of the list's slots, for each id the slot of its
-- record, and how many records there are. The machine of document 01 ("Edit") runs on it and the list is written back
-- from it. Laws: proofs/IndexLaws.antt. Assumes nothing.
use Rattle.std.specs.Prelude.{◌≡◌, ℕ, zero, suc, ◌+◌, ◌-◌, ◌*◌, ◌≤◌, ◌<◌, true, false, List, [], ◌∷◌, map, T, eqb, ltb}
use Rattle.std.specs.Prelude.{Option, Some, None, length, get_or, take, drop, set}
use Rattle.eit.specs.Overwrite.{overwrite}
use Rattle.eit.specs.Among.{all_differ}
use Rattle.eit.specs.Records.{EventList, lent_list, record_size, front_record, numbers_of_all}
use Rattle.eit.specs.Sound.{starts_of}
use Rattle.eit.specs.declared.Record.{Record}
use Rattle.list_records.specs.Written.{record_written}
use Rattle.edit_index.specs.Order.{entry_of, slot_in, slots_in, starts_in, slots_from, with_entry, without_entry}

-- how many slots there are, and so how many records an index has room for; how many ids; and what stands for no slot
abbrev pub slot_limit : ℕ
slot_limit = 2048

abbrev pub id_limit : ℕ
id_limit = 65536

abbrev pub no_slot : ℕ
no_slot = 65535

-- ---- what an index holds

pub record Index : Type 0 where
  pub slots : List ℕ
  pub order : List ℕ
  pub ids : List ℕ
  pub count : ℕ

-- the index that a call is lent
abbrev pub lent_index : List ℕ → List ℕ → List ℕ → ℕ → Index
lent_index slots order ids count = record { slots = slots; order = order; ids = ids; count = count }

-- the record in a slot
abbrev pub slot_record : List ℕ → ℕ → Record
slot_record slots s = front_record (drop (s * record_size) slots)

-- the slots of its records, the starts beside them, and the records, in their order
abbrev pub held_slots : Index → List ℕ
held_slots x = slots_in (take x.count x.order)

abbrev pub held_starts : Index → List ℕ
held_starts x = starts_in (take x.count x.order)

abbrev pub held_records : Index → List Record
held_records x = map (slot_record x.slots) (held_slots x)

-- the slot to which the ids lead an id
abbrev pub led_by : List ℕ → ℕ → Option ℕ
led_by ids id = elim (eqb (get_or ids id no_slot) no_slot) [ true ↦ None | false ↦ Some (get_or ids id no_slot) ]

-- the slot that an id leads to, and the record in it
abbrev pub slot_led : Index → ℕ → Option ℕ
slot_led x id = led_by x.ids id

abbrev pub record_led : Index → ℕ → Option Record
record_led x id =
    elim (eqb (get_or x.ids id no_slot) no_slot) [
      | true ↦ None
      | false ↦ Some (slot_record x.slots (get_or x.ids id no_slot))
    ]

-- the first slot whose record has the id
abbrev pub slot_of : (ℕ → Record) → ℕ → List ℕ → ℕ
slot_of f id [] = no_slot
slot_of f id (s ∷ ss) = elim (eqb id (f s).id) [ true ↦ s | false ↦ slot_of f id ss ]

-- every slot is below n
abbrev pub AllBelow : ℕ → List ℕ → Type 0
AllBelow n [] = Unit {0}
AllBelow n (s ∷ ss) = (s < n) × AllBelow n ss

-- the order has each slot once, and beside the slot of a record the record's start; an id leads to its record's slot
pub record Holds (x : Index) : Type 0 where
  pub slots_size : length x.slots ≡ slot_limit * record_size
  pub order_size : length x.order ≡ slot_limit
  pub ids_size : length x.ids ≡ id_limit
  pub few : x.count ≤ slot_limit
  pub below : AllBelow slot_limit (slots_in x.order)
  pub differ : T (all_differ (slots_in x.order))
  pub starts : held_starts x ≡ starts_of (held_records x)
  pub found : (id : ℕ) → id < id_limit → get_or x.ids id no_slot ≡ slot_of (slot_record x.slots) id (held_slots x)

-- ---- records put in and taken out

-- the first slot behind those of its records
abbrev pub free_slot : Index → ℕ
free_slot x = slot_in (get_or x.order x.count 0)

-- one record more, as far as the order has entries
abbrev pub one_more : ℕ → ℕ → ℕ
one_more entries count = elim (ltb count entries) [ true ↦ count + 1 | false ↦ count ]

-- a record in a place of its records, in that slot
abbrev pub added : ℕ → Record → Index → Index
added place r x =
    record {
      slots = record_written x.slots (free_slot x) r;
      order = with_entry x.order x.count place (entry_of r.start (free_slot x));
      ids = set x.ids r.id (free_slot x);
      count = one_more (length x.order) x.count;
    }

-- the record in a place, which has the id, taken out
abbrev pub taken_out : ℕ → ℕ → Index → Index
taken_out place id x =
    record {
      slots = x.slots;
      order = without_entry x.order x.count place;
      ids = set x.ids id no_slot;
      count = x.count - 1;
    }

-- all slots free; the ids lead where they led
abbrev pub emptied : Index → Index
emptied x = record { slots = x.slots; order = slots_from 0 (length x.order); ids = x.ids; count = 0 }

-- the first n records of a list put in, one behind the other
abbrev pub loaded : List ℕ → ℕ → Index → Index
loaded list zero x = x
loaded list (suc n) x = added n (slot_record list n) (loaded list n x)

-- ---- the list that an index stands for

-- its numbers. Those of the records in the lent list are stale; those behind them are the list's
abbrev pub indexed_numbers : List ℕ → Index → List ℕ
indexed_numbers list x = overwrite list 0 (numbers_of_all (held_records x))

abbrev pub indexed_list : List ℕ → Index → EventList
indexed_list list x = lent_list (indexed_numbers list x) x.count

-- the first n records written to a list, one behind the other
abbrev pub stored : List ℕ → Index → ℕ → List ℕ
stored list x zero = list
stored list x (suc n) = record_written (stored list x n) n (slot_record x.slots (slot_in (get_or x.order n 0)))
