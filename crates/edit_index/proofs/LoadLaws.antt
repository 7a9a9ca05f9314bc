-- An index of no records, one made from a list record by record, and the list written back record by record: each step
-- puts one record more at the end. Assumes nothing.
use mathlib.Core.Path.{◌≡◌, refl, sym, ap, ap₂, ◌∙◌}
use mathlib.Core.Bool.{not}
use mathlib.Core.List.{List, [], ◌∷◌, ◌++◌, map}
use Prim.Native.Nat.{ℕ, zero, suc, ◌+◌, ◌*◌, ◌≤◌, ◌<◌}
use native.Mathlib.Omega.{arith}
use lib.Dec.{T, eqb}
use lib.ListN.{length, get_or, take, drop, length-map, drop_of_length-le}
use lib.Seq.{take_all, take-suc, drop-drop, length-take-le}
use Rattle.eit.specs.Overwrite.{overwrite}
use Rattle.eit.specs.Among.{is_among, all_differ}
use Rattle.eit.specs.Records.{record_size, front_record, records_in, numbers_of, numbers_of_all}
use Rattle.eit.specs.Sound.{ids_of}
use Rattle.eit.specs.declared.Record.{Record}
use Rattle.eit.proofs.Among.{differ_snoc}
use Rattle.eit.proofs.Overwrite.{over_nothing, over_length}
use Rattle.eit.proofs.Records.{numbers_length, numbers_append}
use Rattle.eit.proofs.Test.{tests, ne_test}
use Rattle.list_records.specs.Written.{record_written}
use Rattle.list_records.proofs.WriteLaws.{over_behind, written_is}
use Rattle.edit_index.specs.Order.{slot_in, slots_in, slots_from}
use Rattle.edit_index.specs.Index.{Index}
use Rattle.edit_index.specs.Index.{slot_limit, id_limit, no_slot, slot_record, held_records}
use Rattle.edit_index.specs.Index.{AllBelow, Holds, emptied, loaded, indexed_numbers, stored}
use Rattle.edit_index.proofs.OrderLaws.{from_length}
use Rattle.edit_index.proofs.SlotLaws.{map_joined}
use Rattle.edit_index.proofs.IndexLaws.{held_length}
use Rattle.edit_index.proofs.AddLaws.{add_count, add_records, add_holds}

-- ---- an index of no records

from_below : (first n : ℕ) → first + n ≤ slot_limit → AllBelow slot_limit (slots_in (slots_from first n))
from_below first zero few = tt
from_below first (suc n) few = (omega arith, from_below (suc first) n (omega arith))

from_apart : (s first n : ℕ) → s < first → first + n ≤ slot_limit
    → T (not (is_among (slot_in s) (slots_in (slots_from first n))))
from_apart s first zero before few = tt
from_apart s first (suc n) before few =
    let one : T (not (eqb (slot_in s) (slot_in first))) = ne_test (slot_in s) (slot_in first) (λ e. omega (arith, e)) in
    search (tests, one, from_apart s (suc first) n (omega arith) (omega arith))

from_differ : (first n : ℕ) → first + n ≤ slot_limit → T (all_differ (slots_in (slots_from first n)))
from_differ first zero few = tt
from_differ first (suc n) few =
    search (
      tests,
      from_apart first (suc first) n (omega arith) (omega arith),
      from_differ (suc first) n (omega arith),
    )

pub holds_none : (x : Index) → length x.slots ≡ slot_limit * record_size → length x.order ≡ slot_limit
    → length x.ids ≡ id_limit → ((id : ℕ) → id < id_limit → get_or x.ids id no_slot ≡ no_slot)
    → Holds (emptied x)
holds_none x slots_size order_size ids_size none =
    record {
      slots_size = slots_size;
      order_size = from_length 0 (length x.order) ∙ order_size;
      ids_size = ids_size;
      few = omega arith;
      below = from_below 0 (length x.order) (omega arith);
      differ = from_differ 0 (length x.order) (omega arith);
      starts = refl;
      found = none;
    }

-- ---- an index made

-- a list whose records an index can hold: few enough, with ids that differ
pub record Loadable (list : List ℕ) (count : ℕ) : Type 0 where
  pub few : count ≤ slot_limit
  pub small : (i : ℕ) → i < count → (slot_record list i).id < id_limit
  pub differ : T (all_differ (ids_of (records_in count list)))

-- one record more
records_more : (n : ℕ) (d : List ℕ) → records_in (suc n) d ≡ records_in n d ++ (slot_record d n ∷ [])
unfolding records_in
records_more zero d = refl
records_more (suc n) d =
    let next : record_size + n * record_size ≡ suc n * record_size = omega arith in
    ap (λ (rs : List Record). front_record d ∷ rs)
    (records_more n (drop record_size d)
    ∙ ap (λ (ns : List ℕ). records_in n (drop record_size d) ++ (front_record ns ∷ []))
    (drop-drop (n * record_size) record_size d ∙ ap (λ (k : ℕ). drop k d) next))

module _ (list : List ℕ) where
  ids_more : (n : ℕ) → ids_of (records_in (suc n) list) ≡ ids_of (records_in n list) ++ ((slot_record list n).id ∷ [])
  ids_more n =
      ap ids_of (records_more n list) ∙ map_joined (λ (r : Record). r.id) (records_in n list) (slot_record list n ∷ [])

  module _ (n : ℕ) (l : Loadable list (suc n)) where
    parts : T (all_differ (ids_of (records_in n list)))
        × T (not (is_among (slot_record list n).id (ids_of (records_in n list))))
    parts = (differ_snoc (ids_of (records_in n list)) (slot_record list n).id).0 (rw (ids_more n) at l.differ)

    one_less : Loadable list n
    one_less =
        record { few = omega (arith, l.few); small = λ i h. l.small i (omega arith); differ = parts.0 }

  module _ {x : Index} (h : Holds x) (none : x.count ≡ 0) where
    both : (n : ℕ) → Loadable list n
        → Holds (loaded list n x) × ((loaded list n x).count ≡ n) × (held_records (loaded list n x) ≡ records_in n list)
    unfolding records_in
    both zero l =
        (h, none, ap (λ (n : ℕ). map (slot_record x.slots) (slots_in (take n x.order))) none)
    both (suc n) l =
        let so_far = both n (one_less n l) in
        let y : Index = loaded list n x in
        let r : Record = slot_record list n in
        let rs : List Record = held_records y in
        let new : T (not (is_among r.id (ids_of rs))) = rw so_far.2 (parts n l).1 in
        let room : y.count < slot_limit = omega (arith, so_far.1, l.few) in
        let there : n ≤ y.count = omega (arith, so_far.1) in
        let size : length rs ≡ n = held_length so_far.0 ∙ so_far.1 in (
          add_holds so_far.0 room n r there (l.small n (omega arith)) new,
          omega (arith, so_far.1, add_count so_far.0 room n r there),
          add_records so_far.0 room n r there
              ∙ ap₂ (λ (front back : List Record). front ++ r ∷ back) (take_all n rs (omega arith))
              (drop_of_length-le rs {i = n} (omega arith))
              ∙ ap (λ (front : List Record). front ++ (r ∷ [])) so_far.2
              ∙ sym (records_more n list),
        )

    pub loaded_holds : (count : ℕ) → Loadable list count → Holds (loaded list count x)
    loaded_holds count l = (both count l).0

    pub loaded_count : (count : ℕ) → Loadable list count → (loaded list count x).count ≡ count
    loaded_count count l = (both count l).1

    pub loaded_records : (count : ℕ) → Loadable list count
        → held_records (loaded list count x) ≡ records_in count list
    loaded_records count l = (both count l).2

-- ---- the list written back

module _ (list : List ℕ) (x : Index) where
  -- the first n records
  abbrev first_records : ℕ → List Record
  first_records n = map (slot_record x.slots) (slots_in (take n x.order))

  more_numbers : (n : ℕ) → n < length x.order
      → numbers_of_all (first_records (suc n))
      ≡ numbers_of_all (first_records n) ++ numbers_of (slot_record x.slots (slot_in (get_or x.order n 0)))
  more_numbers n within =
      let last : List ℕ = get_or x.order n 0 ∷ [] in
      ap (λ (es : List ℕ). numbers_of_all (map (slot_record x.slots) (slots_in es))) (take-suc x.order n 0 within)
      ∙ ap (λ (ss : List ℕ). numbers_of_all (map (slot_record x.slots) ss))
      (map_joined slot_in (take n x.order) last)
      ∙ ap numbers_of_all (map_joined (slot_record x.slots) (slots_in (take n x.order)) (slots_in last))
      ∙ numbers_append (first_records n) (map (slot_record x.slots) (slots_in last))

  stored_first : (n : ℕ) → n * record_size ≤ length list → n ≤ length x.order
      → stored list x n ≡ overwrite list 0 (numbers_of_all (first_records n))
  stored_first zero fits few = sym (over_nothing list 0)
  stored_first (suc n) fits few =
      let front : List ℕ = numbers_of_all (first_records n) in
      let r : Record = slot_record x.slots (slot_in (get_or x.order n 0)) in
      let size : 0 + length front ≡ n * record_size =
      omega (
        arith,
        numbers_length (first_records n),
        length-map (slots_in (take n x.order)) (slot_record x.slots),
        length-map (take n x.order) slot_in,
        length-take-le n x.order (omega arith),
      ) in
      ap (λ (ns : List ℕ). record_written ns n r) (stored_first n (omega arith) (omega arith))
      ∙ written_is (overwrite list 0 front) n r (omega (arith, over_length list 0 front (omega arith)))
      ∙ over_behind list 0 front (omega arith) (n * record_size) (numbers_of r) size
      ∙ ap (overwrite list 0) (sym (more_numbers n (omega arith)))

  pub stored_is : x.count * record_size ≤ length list → x.count ≤ length x.order
      → stored list x x.count ≡ indexed_numbers list x
  stored_is fits few = stored_first x.count fits few
