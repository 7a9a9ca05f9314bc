-- What an index says: how many records it holds, their places, the slot of an id, and the list that it stands for. By
-- the laws of slots. Assumes nothing.
use mathlib.Core.Path.{◌≡◌, sym, ap, ◌∙◌}
use mathlib.Core.Logic.{⊎_elim}
use mathlib.Core.Bool.{true, false, not}
use Rattle.std.specs.Prelude.{Some, None}
use Rattle.std.specs.Option.{is_some}
use mathlib.Core.List.{List, ◌++◌}
use Prim.Native.Nat.{ℕ, ◌*◌, ◌≤◌, ◌<◌}
use native.Mathlib.Omega.{arith}
use borrow.Author.Tests.{eq-eqb, ne_eqb}
use lib.Dec.{T, not_T}
use lib.ListN.{length, get_or, take, drop, length-map, take-append-drop}
use lib.Seq.{length-take-le, get_or-take}
use Rattle.eit.specs.Overwrite.{overwrite}
use Rattle.eit.specs.Among.{is_among}
use Rattle.eit.specs.Find.{position_of, place_of}
use Rattle.eit.specs.Placing.{placing}
use Rattle.eit.specs.Records.{lent_list, record_size, records_of, numbers_of_all}
use Rattle.eit.specs.Sound.{ids_of}
use Rattle.eit.specs.declared.Record.{Record}
use Rattle.eit.proofs.Find.{position_length}
use Rattle.eit.proofs.Overwrite.{over_self}
use Rattle.eit.proofs.Placing.{place_search}
use Rattle.eit.proofs.Records.{records_written, numbers_back}
use Rattle.eit.proofs.Test.{test_or, eq_or_not}
use Rattle.script.specs.Machine.{find, zero_record}
use Rattle.script.proofs.Places.{find_at}
use Rattle.edit_index.specs.Order.{slot_in, slots_in}
use Rattle.edit_index.specs.Index.{Index}
use Rattle.edit_index.specs.Index.{slot_limit, id_limit, no_slot, slot_record, held_slots, held_starts}
use Rattle.edit_index.specs.Index.{held_records, led_by, slot_led, record_led, AllBelow, Holds}
use Rattle.edit_index.specs.Index.{indexed_numbers, indexed_list}
use Rattle.edit_index.proofs.SlotLaws.{below_at, below_front, map_joined, map_at, slot_none, slot_some}

module _ {x : Index} (h : Holds x) where
  -- ---- its records

  entries_length : length (take x.count x.order) ≡ x.count
  entries_length = length-take-le x.count x.order (omega (arith, h.few, h.order_size))

  pub slots_length : length (held_slots x) ≡ x.count
  slots_length = length-map (take x.count x.order) slot_in ∙ entries_length

  pub held_length : length (held_records x) ≡ x.count
  held_length = length-map (held_slots x) (slot_record x.slots) ∙ slots_length

  -- those of the list that it stands for are those that it holds
  pub index_records : (list : List ℕ) → records_of (indexed_list list x) ≡ held_records x
  index_records list =
      ap (λ (n : ℕ). records_of (lent_list (indexed_numbers list x) n)) (sym held_length)
      ∙ records_written (held_records x) list

  -- the place of a start in the order is its place among the records
  pub held_place : (start : ℕ) → (placing start (held_starts x)).place ≡ place_of start (held_records x)
  held_place start =
      ap (λ (starts : List ℕ). (placing start starts).place) h.starts
      ∙ place_search.same_place start (held_records x)

  -- a record is the one in the slot of its entry
  pub held_record : (k : ℕ) → k < x.count
      → get_or (held_records x) k zero_record ≡ slot_record x.slots (slot_in (get_or x.order k 0))
  held_record k within =
      let few : k < length (take x.count x.order) = omega (arith, entries_length) in
      map_at (slot_record x.slots) (held_slots x) k 0 zero_record (omega (arith, slots_length))
      ∙ ap (slot_record x.slots)
      (map_at slot_in (take x.count x.order) k 0 0 few
      ∙ ap slot_in (get_or-take x.count x.order k 0 within))

  -- the order's slots are those of the records and those behind them
  pub slots_cut : slots_in x.order ≡ held_slots x ++ slots_in (drop x.count x.order)
  slots_cut =
      ap slots_in (sym (take-append-drop x.count x.order))
      ∙ map_joined slot_in (take x.count x.order) (drop x.count x.order)

  pub held_below : AllBelow slot_limit (held_slots x)
  held_below =
      below_front slot_limit (held_slots x) (slots_in (drop x.count x.order)) (rw slots_cut at h.below)

  -- ---- the slot of an id

  module _ (id : ℕ) (small : id < id_limit) where
    module _ (a : T (is_among id (ids_of (held_records x)))) where
      pub id_place : position_of id (held_records x) < x.count
      id_place = omega (arith, position_length id (held_records x) a, held_length)

      pub id_slot : get_or x.ids id no_slot ≡ get_or (held_slots x) (position_of id (held_records x)) 0
      id_slot = h.found id small ∙ slot_some (slot_record x.slots) id (held_slots x) a

      pub id_below : get_or x.ids id no_slot < slot_limit
      id_below =
          let below = below_at slot_limit (held_slots x) held_below (position_of id (held_records x))
          (omega (arith, id_place, slots_length)) in
          omega (arith, id_slot)

      pub id_record : slot_record x.slots (get_or x.ids id no_slot) ≡ find id (held_records x)
      id_record =
          let i : ℕ = position_of id (held_records x) in
          let within : i < length (held_slots x) = omega (arith, id_place, slots_length) in
          ap (slot_record x.slots) id_slot
          ∙ sym (map_at (slot_record x.slots) (held_slots x) i 0 zero_record within)
          ∙ sym (find_at id (held_records x) zero_record a)

    pub id_absent : get_or x.ids id no_slot ≡ no_slot → T (not (is_among id (ids_of (held_records x))))
    id_absent none = not_T (is_among id (ids_of (held_records x))) (λ a. omega (arith, id_below a))

    pub id_present : (get_or x.ids id no_slot ≡ no_slot → ⊥) → T (is_among id (ids_of (held_records x)))
    id_present some =
        ⊎_elim (λ a. a)
        (λ n. absurd (some (h.found id small ∙ slot_none (slot_record x.slots) id (held_slots x) n)))
        (test_or (is_among id (ids_of (held_records x))))

-- ---- what the lookups of an id say

module _ (x : Index) (id : ℕ) where
  abbrev slot : ℕ
  slot = get_or x.ids id no_slot

  module _ (none : get_or x.ids id no_slot ≡ no_slot) where
    slot_away : slot_led x id ≡ None
    slot_away = rw (slot_led, led_by, eq-eqb slot no_slot none)

    record_away : record_led x id ≡ None
    record_away = rw (record_led, eq-eqb slot no_slot none)

  module _ (some : get_or x.ids id no_slot ≡ no_slot → ⊥) where
    slot_there : slot_led x id ≡ Some slot
    slot_there = rw (slot_led, led_by, ne_eqb slot no_slot some)

    record_there : record_led x id ≡ Some (slot_record x.slots slot)
    record_there = rw (record_led, ne_eqb slot no_slot some)

  pub record_none : None ≡ record_led x id → get_or x.ids id no_slot ≡ no_slot
  record_none e =
      ⊎_elim (λ none. none) (λ some. let there = record_there some in cc) (eq_or_not slot no_slot)

  pub record_some : (r : Record) → Some r ≡ record_led x id
      → (get_or x.ids id no_slot ≡ no_slot → ⊥) × (r ≡ slot_record x.slots (get_or x.ids id no_slot))
  record_some r e =
      ⊎_elim (λ none. let away = record_away none in cc)
      (λ some. let there = record_there some in (some, cc)) (eq_or_not slot no_slot)

  pub slot_none_found : is_some (slot_led x id) ≡ false → get_or x.ids id no_slot ≡ no_slot
  slot_none_found e =
      ⊎_elim (λ none. none) (λ some. let there = ap is_some (slot_there some) in cc) (eq_or_not slot no_slot)

  pub slot_found : is_some (slot_led x id) ≡ true → get_or x.ids id no_slot ≡ no_slot → ⊥
  slot_found e none = let away = ap is_some (slot_away none) in cc

-- ---- an index of a list's own records

pub indexed_own : (list : List ℕ) (x : Index) → x.count * record_size ≤ length list
    → held_records x ≡ records_of (lent_list list x.count)
    → indexed_list list x ≡ lent_list list x.count
unfolding records_of
indexed_own list x fits same =
    ap (λ (ns : List ℕ). lent_list ns x.count)
    (ap (λ (rs : List Record). overwrite list 0 (numbers_of_all rs)) same
    ∙ ap (overwrite list 0) (numbers_back x.count list fits)
    ∙ over_self list 0 (x.count * record_size))
