-- An index with a record put in the first slot that is free: what it then holds, and that it is an index. The slots
-- differ, so the records in the others stay; and the order has the same slots, one of them in another place.
-- Assumes nothing.
use mathlib.Core.Path.{◌≡◌, refl, sym, ap, ap₂, subst, ◌∙◌}
use mathlib.Core.Logic.{⊎_elim}
use mathlib.Core.Bool.{Bool, true, false, not, ◌&&◌}
use mathlib.Core.List.{List, ◌∷◌, ◌++◌, map, append_assoc}
use Prim.Native.Nat.{ℕ, suc, ◌+◌, ◌*◌, ◌≤◌, ◌<◌}
use native.Mathlib.Omega.{arith}
use borrow.Author.Tests.{lt-ltb}
use lib.Dec.{T}
use lib.ListN.{length, get_or, take, drop, set, length-set, take-append-drop}
use lib.Seq.{drop-cons, get_or-set_same, get_or-set_other}
use Rattle.eit.specs.Among.{is_among, all_differ}
use Rattle.eit.specs.Records.{record_size, numbers_of}
use Rattle.eit.specs.Sound.{ids_of, starts_of}
use Rattle.eit.specs.declared.Record.{Record}
use Rattle.eit.proofs.Overwrite.{over_length}
use Rattle.eit.proofs.Test.{and_left, eq_or_not, eq_test, ne_test}
use Rattle.list_records.specs.Written.{record_written}
use Rattle.list_records.proofs.WriteLaws.{written_is}
use Rattle.edit_index.specs.Order.{entry_of, slot_in, start_in, slots_in, starts_in, with_entry}
use Rattle.edit_index.specs.Index.{Index}
use Rattle.edit_index.specs.Index.{slot_limit, id_limit, no_slot, slot_record, held_slots, held_starts}
use Rattle.edit_index.specs.Index.{held_records, slot_of, Holds, free_slot, added}
use Rattle.edit_index.proofs.OrderLaws.{with_length, with_around, with_behind}
use Rattle.edit_index.proofs.SlotLaws.{below_parts, below_moved, differ_one, differ_moved, none_front}
use Rattle.edit_index.proofs.SlotLaws.{map_insert, map_joined, slot_insert_other, slot_insert_same}
use Rattle.edit_index.proofs.SlotLaws.{records_same, slot_same, slot_new, slot_kept}
use Rattle.edit_index.proofs.IndexLaws.{slots_cut}

module _ {x : Index} (h : Holds x) (room : x.count < slot_limit) where
  abbrev free : ℕ
  free = free_slot x

  abbrev rest : List ℕ
  rest = slots_in (drop (suc x.count) x.order)

  -- ---- the free slot

  free_cut : slots_in x.order ≡ held_slots x ++ free ∷ rest
  free_cut =
      slots_cut h
      ∙ ap (λ (es : List ℕ). held_slots x ++ slots_in es)
      (drop-cons x.order x.count 0 (omega (arith, h.order_size)))

  pub free_below : free_slot x < slot_limit
  free_below = (below_parts slot_limit (held_slots x) free rest (rw free_cut at h.below)).0

  pub free_apart : T (not (is_among (free_slot x) (held_slots x)))
  free_apart =
      let parts : T (not (is_among free (held_slots x ++ rest)) && all_differ (held_slots x ++ rest)) =
      rw (free_cut, differ_one (held_slots x) free rest) at h.differ in
      none_front free (held_slots x) rest
      (and_left (not (is_among free (held_slots x ++ rest))) (all_differ (held_slots x ++ rest)) parts)

  module _ (place : ℕ) (r : Record) (there : place ≤ x.count) where
    abbrev entry : ℕ
    entry = entry_of r.start free

    abbrev new_slots : List ℕ
    new_slots = record_written x.slots free r

    abbrev new_order : List ℕ
    new_order = with_entry x.order x.count place entry

    -- there is room for one record more
    abbrev grown : Index
    grown = record { slots = new_slots; order = new_order; ids = set x.ids r.id free; count = x.count + 1 }

    added_is : added place r x ≡ grown
    added_is =
        ap
        (λ (more : Bool).
        record {
          slots = new_slots;
          order = new_order;
          ids = set x.ids r.id free;
          count = elim more [ true ↦ x.count + 1 | false ↦ x.count ];
        })
        (lt-ltb x.count (length x.order) (omega (arith, h.order_size)))

    pub add_count : (added place r x).count ≡ x.count + 1
    add_count = ap (λ (y : Index). y.count) added_is

    fits : free * record_size + record_size ≤ length x.slots
    fits = omega (arith, h.slots_size, free_below)

    within : x.count < length x.order
    within = omega (arith, h.order_size)

    its_slot : slot_in entry ≡ free
    its_slot = omega (arith, free_below)

    its_start : start_in entry ≡ r.start
    its_start = omega (arith, free_below)

    -- ---- its order

    around : take (x.count + 1) new_order
        ≡ take place (take x.count x.order) ++ entry ∷ drop place (take x.count x.order)
    around = with_around x.order x.count place entry within there (take x.count x.order) refl

    slots_around : slots_in (take (x.count + 1) new_order)
        ≡ take place (held_slots x) ++ free ∷ drop place (held_slots x)
    slots_around =
        ap slots_in around
        ∙ map_insert slot_in entry place (take x.count x.order)
        ∙ ap (λ (s : ℕ). take place (held_slots x) ++ s ∷ drop place (held_slots x)) its_slot

    starts_around : starts_in (take (x.count + 1) new_order)
        ≡ take place (held_starts x) ++ r.start ∷ drop place (held_starts x)
    starts_around =
        ap starts_in around
        ∙ map_insert start_in entry place (take x.count x.order)
        ∙ ap (λ (s : ℕ). take place (held_starts x) ++ s ∷ drop place (held_starts x)) its_start

    all_slots : slots_in new_order
        ≡ take place (held_slots x) ++ free ∷ (drop place (held_slots x) ++ rest)
    all_slots =
        let one : x.count + 1 ≡ suc x.count = omega arith in
        ap slots_in (sym (take-append-drop (x.count + 1) new_order))
        ∙ map_joined slot_in (take (x.count + 1) new_order) (drop (x.count + 1) new_order)
        ∙ ap₂ (λ (ss es : List ℕ). ss ++ slots_in es) slots_around
        (with_behind x.order x.count place entry within there ∙ ap (λ (n : ℕ). drop n x.order) one)
        ∙ append_assoc (take place (held_slots x)) (free ∷ drop place (held_slots x)) rest

    others : held_slots x ++ rest ≡ take place (held_slots x) ++ (drop place (held_slots x) ++ rest)
    others =
        ap (λ (ss : List ℕ). ss ++ rest) (sym (take-append-drop place (held_slots x)))
        ∙ append_assoc (take place (held_slots x)) (drop place (held_slots x)) rest

    -- ---- its records

    same_records : map (slot_record new_slots) (held_slots x) ≡ held_records x
    same_records =
        records_same (slot_record x.slots) (slot_record new_slots) free (slot_kept x.slots free r fits)
        (held_slots x) free_apart

    grown_records : held_records grown ≡ take place (held_records x) ++ r ∷ drop place (held_records x)
    grown_records =
        ap (map (slot_record new_slots)) slots_around
        ∙ map_insert (slot_record new_slots) free place (held_slots x)
        ∙ ap₂ (λ (rs : List Record) (q : Record). take place rs ++ q ∷ drop place rs) same_records
        (slot_new x.slots free r fits)

    pub add_records : held_records (added place r x) ≡ take place (held_records x) ++ r ∷ drop place (held_records x)
    add_records = ap held_records added_is ∙ grown_records

    grown_starts : held_starts grown ≡ starts_of (held_records grown)
    grown_starts =
        starts_around
        ∙ ap (λ (starts : List ℕ). take place starts ++ r.start ∷ drop place starts) h.starts
        ∙ sym (map_insert (λ (q : Record). q.start) r place (held_records x))
        ∙ ap starts_of (sym grown_records)

    -- ---- its ids

    module _ (small : r.id < id_limit) (new : T (not (is_among r.id (ids_of (held_records x))))) where
      finds : (id : ℕ) → id < id_limit
          → get_or (set x.ids r.id free) id no_slot
          ≡ slot_of (slot_record new_slots) id (slots_in (take (x.count + 1) new_order))
      finds id few =
          ⊎_elim same other (eq_or_not id r.id) ∙ ap (slot_of (slot_record new_slots) id) (sym slots_around)
        where
          ss : List ℕ
          ss = held_slots x

          its_id : (slot_record new_slots free).id ≡ r.id
          its_id = ap (λ (q : Record). q.id) (slot_new x.slots free r fits)

          same : id ≡ r.id
              → get_or (set x.ids r.id free) id no_slot
              ≡ slot_of (slot_record new_slots) id (take place ss ++ free ∷ drop place ss)
          same e =
              let gone : T (not (is_among id (ids_of (map (slot_record new_slots) ss)))) = rw (same_records, e) new in
              ap (λ (n : ℕ). get_or (set x.ids r.id free) n no_slot) e
              ∙ get_or-set_same x.ids r.id free no_slot (omega (arith, h.ids_size))
              ∙ sym (slot_insert_same (slot_record new_slots) id free
              (eq_test id (slot_record new_slots free).id (e ∙ sym its_id)) place ss gone)

          other : (id ≡ r.id → ⊥)
              → get_or (set x.ids r.id free) id no_slot
              ≡ slot_of (slot_record new_slots) id (take place ss ++ free ∷ drop place ss)
          other ne =
              get_or-set_other x.ids r.id id free no_slot ne
              ∙ h.found id few
              ∙ sym (slot_same (slot_record x.slots) (slot_record new_slots) free (slot_kept x.slots free r fits) id
              ss free_apart)
              ∙ sym
              (slot_insert_other (slot_record new_slots) id free
              (ne_test id (slot_record new_slots free).id (λ e. ne (e ∙ its_id))) place ss)

      grown_holds : Holds grown
      grown_holds =
          record {
            slots_size =
                ap length (written_is x.slots free r fits)
                ∙ over_length x.slots (free * record_size) (numbers_of r) fits
                ∙ h.slots_size;
            order_size = with_length x.order x.count place entry within there ∙ h.order_size;
            ids_size = length-set x.ids r.id free ∙ h.ids_size;
            few = omega arith;
            below =
                rw all_slots
                (below_moved free (held_slots x) rest (take place (held_slots x))
                (drop place (held_slots x) ++ rest) others slot_limit (rw free_cut at h.below));
            differ =
                rw all_slots
                (differ_moved free (held_slots x) rest (take place (held_slots x))
                (drop place (held_slots x) ++ rest) others (rw free_cut at h.differ));
            starts = grown_starts;
            found = finds;
          }

      pub add_holds : Holds (added place r x)
      add_holds = subst Holds (sym added_is) grown_holds
