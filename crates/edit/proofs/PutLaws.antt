-- What PUT on an index leaves, by the tests that the code makes: one law for each return. Assumes nothing.
use mathlib.Core.Path.{◌≡◌, sym, ap, ap₂, ◌∙◌}
use mathlib.Core.Bool.{Bool, true, false, not}
use mathlib.Core.List.{List, ◌∷◌, ◌++◌}
use Rattle.std.specs.Prelude.{Ok, Err}
use Prim.Native.Nat.{ℕ, ◌+◌, ◌/◌, ◌≤◌, ◌<◌, min}
use native.Mathlib.Omega.{arith}
use borrow.Author.Tests.{le-ltb}
use lib.Dec.{T, lt→ltb}
use lib.ListN.{length, get_or, take, drop}
use Rattle.eit.specs.declared.Sizes.{Sizes}
use Rattle.eit.specs.Pools.{Pools}
use Rattle.eit.specs.Overwrite.{overwrite}
use Rattle.eit.specs.Among.{is_among}
use Rattle.eit.specs.Find.{place_of}
use Rattle.eit.specs.Overlap.{overlaps_one}
use Rattle.eit.specs.Placing.{placing}
use Rattle.eit.specs.Records.{EventList, lent_list, record_size, records_of, numbers_of_all}
use Rattle.eit.specs.Sound.{in_range, has_chain, ids_of}
use Rattle.eit.specs.declared.Place.{Place}
use Rattle.eit.specs.declared.Record.{Record}
use Rattle.eit.proofs.Find.{place_length}
use Rattle.eit.proofs.OverlapLaws.{overlaps_beside, overlap_by_place}
use Rattle.eit.proofs.Overwrite.{over_length}
use Rattle.eit.proofs.Records.{numbers_length}
use Rattle.eit.proofs.Sound.{range_facts}
use Rattle.eit.proofs.Test.{not_not}
use Rattle.script.specs.Form.{put}
use Rattle.script.specs.Machine.{limit_of, insert, after_put}
use Rattle.script.proofs.Placing.{insert_length}
use Rattle.script.proofs.Places.{insert_place}
use Rattle.script.proofs.Steps.{put_5, put_9, put_6, put_30, put_8, put_passes}
use Rattle.edit_answer.specs.declared.EditError.{EditError}
use Rattle.edit_answer.specs.declared.EditError.TheVariants.{OutOfRange, WrongId, ListFull}
use Rattle.edit_answer.specs.declared.EditError.TheVariants.{NoChain, Overlap}
use Rattle.edit_index.specs.Index.{Index}
use Rattle.edit_index.specs.Index.{slot_limit, id_limit, no_slot, held_records, held_starts, added, indexed_numbers}
use Rattle.edit_index.specs.Index.{indexed_list}
use Rattle.edit_index.specs.Neighbours.{overlaps_neighbour}
use Rattle.edit_index.proofs.SlotLaws.{leave, leave_none}
use Rattle.edit_index.proofs.NeighbourLaws.{neighbour_is}
use Rattle.edit_index.proofs.AddLaws.{add_count, add_records, add_holds}
use Rattle.edit.specs.Indexed.{Kept, Leaves}
use Rattle.edit.proofs.IndexedLaws.{does, stands_records, records_length, found_place, refuses, stays}
use Rattle.edit.proofs.IndexedLaws.{passes, written_over, absent, present}

-- a test that came out true, and one that came out false
pub holds : {b : Bool} → b ≡ true → T b
holds e = rw e tt

pub fails : {b : Bool} → b ≡ false → T (not b)
fails e = rw e tt

module _ (sizes : Sizes) (pools : Pools) (list : List ℕ) (x : Index) (k : Kept list x) (at : ℕ)
    (r : Record) where
  abbrev rs : List Record
  rs = held_records x

  abbrev stands : EventList
  stands = indexed_list list x

  -- a refusal
  abbrev Refused : EditError → Type 0
  Refused e = Leaves (does sizes pools list x k at (put r)) (Err e) list x

  pub put_outside : in_range r ≡ false → Refused (OutOfRange at)
  put_outside e =
      stays sizes pools list x k at (put r) (OutOfRange at)
      (refuses sizes pools list x k at (put r) 5
      (put_5 sizes pools stands r (fails e)))

  module _ (range : in_range r ≡ true) where
    pub put_unchained : has_chain pools r ≡ false → Refused (NoChain at)
    put_unchained e =
        stays sizes pools list x k at (put r) (NoChain at)
        (refuses sizes pools list x k at (put r) 9
        (put_9 sizes pools stands r (holds range) (fails e)))

    module _ (chain : has_chain pools r ≡ true) where
      pub put_present : (get_or x.ids r.id no_slot ≡ no_slot → ⊥) → Refused (WrongId at)
      put_present some =
          let a : T (is_among r.id (ids_of (records_of stands))) =
          rw (stands_records sizes pools list x k at)
          (present sizes pools list x k at r.id some) in
          stays sizes pools list x k at (put r) (WrongId at)
          (refuses sizes pools list x k at (put r) 6
          (put_6 sizes pools stands r (holds range) (holds chain)
          (not_not (is_among r.id (ids_of (records_of stands))) a)))

      module _ (none : get_or x.ids r.id no_slot ≡ no_slot) (p : Place) (at_place : p ≡ placing r.start (held_starts x)) where
        new : T (not (is_among r.id (ids_of rs)))
        new = absent sizes pools list x k at r.id none

        new_id_holds : T (not (is_among r.id (ids_of (records_of stands))))
        new_id_holds = rw (stands_records sizes pools list x k at) new

        place : p.place ≡ place_of r.start rs
        place = found_place sizes pools list x k at p r.start at_place

        -- the two beside the place decide
        beside : overlaps_one r (records_of stands) ≡ overlaps_neighbour r x x.count p.place
        beside =
            let all : leave x.count rs ≡ rs =
            ap (λ (n : ℕ). leave n rs) (sym (records_length sizes pools list x k at)) ∙ leave_none rs in
            ap (overlaps_one r) (stands_records sizes pools list x k at)
            ∙ overlap_by_place pools r rs (k.rises pools)
            ∙ ap₂ (overlaps_beside r) (sym place) (sym all)
            ∙ sym (neighbour_is k.holds r x.count p.place)

        pub put_overlaps : overlaps_neighbour r x x.count p.place ≡ true
            → Refused (Overlap at)
        put_overlaps e =
            stays sizes pools list x k at (put r) (Overlap at)
            (refuses sizes pools list x k at (put r) 30
            (put_30 sizes pools stands r (holds range) (holds chain) new_id_holds (holds (beside ∙ e))))

        module _ (clear : overlaps_neighbour r x x.count p.place ≡ false) where
          size : length (indexed_numbers list x) ≡ length list
          size =
              over_length list 0 (numbers_of_all rs)
              (omega (arith, numbers_length rs, records_length sizes pools list x k at, k.fits))

          pub put_full : min (length list / record_size) sizes.event_limit ≤ x.count → Refused (ListFull at)
          put_full h =
              let most : min (length (indexed_numbers list x) / record_size)
              sizes.event_limit ≤ x.count =
              rw size h in
              stays sizes pools list x k at (put r) (ListFull at)
              (refuses sizes pools list x k at (put r) 8
              (put_8 sizes pools stands r (holds range) (holds chain) new_id_holds
              (fails (beside ∙ clear))
              (fails (le-ltb x.count (limit_of sizes stands) most))))

          pub put_goes_in : x.count < min (length list / record_size) sizes.event_limit
              → sizes.event_limit ≤ slot_limit
              → (y : Index) → y ≡ added p.place r x
              → Leaves (does sizes pools list x k at (put r))
              (Ok tt) list y
          put_goes_in few capacity y is =
              let below : x.count < min (length (indexed_numbers list x) / record_size)
              sizes.event_limit =
              rw size few in
              let there : p.place ≤ x.count =
              omega (
                arith,
                place,
                place_length r.start rs,
                records_length sizes pools list x k at,
              ) in
              let small : r.id < id_limit = omega (arith, (range_facts r (holds range)).id) in
              let counted : y.count ≡ x.count + 1 =
              ap (λ (z : Index). z.count) is ∙ add_count k.holds (omega arith) p.place r there in
              let records : held_records y ≡ insert r rs =
              ap held_records is
              ∙ add_records k.holds (omega arith) p.place r there
              ∙ ap (λ (n : ℕ). take n rs ++ r ∷ drop n rs) place
              ∙ sym (insert_place r rs) in
              let next : after_put stands r ≡ indexed_list list y =
              ap (λ (qs : List Record). lent_list
              (overwrite (indexed_numbers list x) 0 (numbers_of_all (insert r qs))) (x.count + 1))
              (stands_records sizes pools list x k at)
              ∙ ap (λ (ns : List ℕ). lent_list ns (x.count + 1))
              (written_over sizes pools list x k at (insert r rs)
              (omega (arith, insert_length r rs, records_length sizes pools list x k at))
              ∙ ap (λ (qs : List Record). overwrite list 0 (numbers_of_all qs)) (sym records))
              ∙ ap (lent_list (indexed_numbers list y)) (sym counted) in
              passes sizes pools list x k at (put r) (after_put stands r)
              (put_passes sizes pools stands r (holds range) (holds chain) new_id_holds
              (fails (beside ∙ clear))
              (lt→ltb x.count (limit_of sizes stands) below))
              list y next
              (rw is (add_holds k.holds (omega arith) p.place r there small new))
              (omega (arith, counted))
