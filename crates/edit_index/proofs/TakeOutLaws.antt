-- An index with the record of an id taken out: what it then holds, and that it is an index. The order has the same
-- slots, one of them behind those of the other records. Assumes nothing.
use mathlib.Core.Path.{◌≡◌, refl, sym, ap, ap₂, ◌∙◌}
use mathlib.Core.Logic.{⊎_elim}
use mathlib.Core.Bool.{not}
use mathlib.Core.List.{List, ◌∷◌, ◌++◌, map, append_assoc}
use Prim.Native.Nat.{ℕ, suc, ◌-◌, ◌≤◌, ◌<◌}
use native.Mathlib.Omega.{arith}
use lib.Dec.{T}
use lib.ListN.{length, get_or, take, drop, set, length-set, take-append-drop}
use lib.Seq.{length-take-le, split_at, get_or-take, get_or-set_same, get_or-set_other}
use Rattle.eit.specs.Among.{is_among, all_differ}
use Rattle.eit.specs.Find.{position_of}
use Rattle.eit.specs.Sound.{ids_of, starts_of}
use Rattle.eit.specs.declared.Record.{Record}
use Rattle.eit.proofs.Test.{eq_or_not, ne_test}
use Rattle.script.specs.Machine.{without, zero_record}
use Rattle.script.proofs.Placing.{without_gone, find_id}
use Rattle.script.proofs.Places.{find_at, without_position}
use Rattle.edit_index.specs.Order.{slot_in, start_in, slots_in, starts_in, without_entry}
use Rattle.edit_index.specs.Index.{Index}
use Rattle.edit_index.specs.Index.{slot_limit, id_limit, no_slot, slot_record, held_slots, held_starts}
use Rattle.edit_index.specs.Index.{held_records, slot_of, Holds, taken_out}
use Rattle.edit_index.proofs.OrderLaws.{without_length, without_around, without_behind}
use Rattle.edit_index.proofs.SlotLaws.{below_moved, differ_moved, map_leave, map_joined, map_at}
use Rattle.edit_index.proofs.SlotLaws.{slot_none, slot_leave_other}
use Rattle.edit_index.proofs.IndexLaws.{slots_length, slots_cut, id_place}

module _ {x : Index} (h : Holds x) (id : ℕ) (small : id < id_limit)
    (a : T (is_among id (ids_of (held_records x)))) (differ : T (all_differ (ids_of (held_records x))))
    (place : ℕ) (is : place ≡ position_of id (held_records x)) where
  abbrev left : List ℕ
  left = without_entry x.order x.count place

  abbrev ss : List ℕ
  ss = held_slots x

  abbrev rs : List Record
  rs = held_records x

  abbrev rest : List ℕ
  rest = slots_in (drop x.count x.order)

  abbrev gone : ℕ
  gone = slot_in (get_or x.order place 0)

  there : place < x.count
  there = omega (arith, id_place h id small a)

  within : x.count ≤ length x.order
  within = omega (arith, h.few, h.order_size)

  -- ---- its order

  around : take (x.count - 1) left ≡ take place (take x.count x.order) ++ drop (suc place) (take x.count x.order)
  around = without_around x.order x.count place within there (take x.count x.order) refl

  slots_around : slots_in (take (x.count - 1) left) ≡ take place ss ++ drop (suc place) ss
  slots_around = ap slots_in around ∙ map_leave slot_in place (take x.count x.order)

  starts_around : starts_in (take (x.count - 1) left)
      ≡ take place (held_starts x) ++ drop (suc place) (held_starts x)
  starts_around = ap starts_in around ∙ map_leave start_in place (take x.count x.order)

  all_slots : slots_in left ≡ take place ss ++ drop (suc place) ss ++ gone ∷ rest
  all_slots =
      ap slots_in (sym (take-append-drop (x.count - 1) left))
      ∙ map_joined slot_in (take (x.count - 1) left) (drop (x.count - 1) left)
      ∙ ap₂ (λ (ns es : List ℕ). ns ++ slots_in es) slots_around
      (without_behind x.order x.count place within there)

  its_slot : get_or ss place 0 ≡ gone
  its_slot =
      map_at slot_in (take x.count x.order) place 0 0 (omega (arith, there, length-take-le x.count x.order within))
      ∙ ap slot_in (get_or-take x.count x.order place 0 there)

  old_slots : slots_in x.order ≡ take place ss ++ gone ∷ (drop (suc place) ss ++ rest)
  old_slots =
      slots_cut h
      ∙ ap (λ (ns : List ℕ). ns ++ rest)
      (split_at ss place 0 (omega (arith, there, slots_length h))
      ∙ ap (λ (s : ℕ). take place ss ++ s ∷ drop (suc place) ss) its_slot)
      ∙ append_assoc (take place ss) (gone ∷ drop (suc place) ss) rest

  -- ---- its records

  held_left : held_records (taken_out place id x) ≡ take place rs ++ drop (suc place) rs
  held_left =
      ap (map (slot_record x.slots)) slots_around ∙ map_leave (slot_record x.slots) place ss

  pub take_out_records : held_records (taken_out place id x) ≡ without id (held_records x)
  take_out_records =
      held_left ∙ ap (λ (p : ℕ). take p rs ++ drop (suc p) rs) is ∙ sym (without_position id rs a)

  take_out_starts : held_starts (taken_out place id x)
      ≡ starts_of (held_records (taken_out place id x))
  take_out_starts =
      starts_around
      ∙ ap (λ (starts : List ℕ). take place starts ++ drop (suc place) starts) h.starts
      ∙ sym (map_leave (λ (r : Record). r.start) place rs)
      ∙ ap starts_of (sym held_left)

  -- ---- its ids

  its_id : (slot_record x.slots (get_or ss place 0)).id ≡ id
  its_id =
      ap (λ (r : Record). r.id)
      (sym (map_at (slot_record x.slots) ss place 0 zero_record (omega (arith, there, slots_length h)))
      ∙ ap (λ (p : ℕ). get_or rs p zero_record) is
      ∙ sym (find_at id rs zero_record a))
      ∙ find_id id rs a

  still_finds : (other : ℕ) → other < id_limit
      → get_or (set x.ids id no_slot) other no_slot
      ≡ slot_of (slot_record x.slots) other (slots_in (take (x.count - 1) left))
  still_finds other few = ⊎_elim same apart (eq_or_not other id)
    where
      same : other ≡ id
          → get_or (set x.ids id no_slot) other no_slot
          ≡ slot_of (slot_record x.slots) other (slots_in (take (x.count - 1) left))
      same e =
          let none : T (not (is_among other (ids_of (held_records (taken_out place id x))))) =
          rw (take_out_records, e) (without_gone id rs differ) in
          ap (λ (n : ℕ). get_or (set x.ids id no_slot) n no_slot) e
          ∙ get_or-set_same x.ids id no_slot no_slot (omega (arith, h.ids_size))
          ∙ sym (slot_none (slot_record x.slots) other (slots_in (take (x.count - 1) left)) none)

      apart : (other ≡ id → ⊥)
          → get_or (set x.ids id no_slot) other no_slot
          ≡ slot_of (slot_record x.slots) other (slots_in (take (x.count - 1) left))
      apart ne =
          get_or-set_other x.ids id other no_slot no_slot ne
          ∙ h.found other few
          ∙ sym
          (slot_leave_other (slot_record x.slots) other place ss (omega (arith, there, slots_length h))
          (ne_test other (slot_record x.slots (get_or ss place 0)).id (λ e. ne (e ∙ its_id))))
          ∙ ap (slot_of (slot_record x.slots) other) (sym slots_around)

  pub take_out_holds : Holds (taken_out place id x)
  take_out_holds =
      let others : take place ss ++ (drop (suc place) ss ++ rest) ≡ take place ss ++ drop (suc place) ss ++ rest =
      sym (append_assoc (take place ss) (drop (suc place) ss) rest) in
      record {
        slots_size = h.slots_size;
        order_size = without_length x.order x.count place within there ∙ h.order_size;
        ids_size = length-set x.ids id no_slot ∙ h.ids_size;
        few = omega (arith, h.few);
        below =
            rw all_slots
            (below_moved gone (take place ss) (drop (suc place) ss ++ rest) (take place ss ++ drop (suc place) ss) rest
            others slot_limit (rw old_slots at h.below));
        differ =
            rw all_slots
            (differ_moved gone (take place ss) (drop (suc place) ss ++ rest) (take place ss ++ drop (suc place) ss) rest
            others (rw old_slots at h.differ));
        starts = take_out_starts;
        found = still_finds;
      }
