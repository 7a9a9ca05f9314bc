-- What WITHDRAW on an index leaves, by the tests that the code makes: one law for each return. Assumes nothing.
use mathlib.Core.Path.{◌≡◌, sym, ap, ◌∙◌}
use mathlib.Core.List.{List, [], ◌∷◌, ◌++◌}
use Rattle.std.specs.Prelude.{Ok, Err}
use Prim.Native.Nat.{ℕ, suc, ◌-◌, ◌*◌}
use native.Mathlib.Omega.{arith}
use lib.Dec.{T}
use lib.ListN.{length, get_or, replicate, length-append}
use Rattle.eit.specs.declared.Sizes.{Sizes}
use Rattle.eit.specs.Pools.{Pools}
use Rattle.eit.specs.Overwrite.{overwrite}
use Rattle.eit.specs.Among.{is_among}
use Rattle.eit.specs.Placing.{placing}
use Rattle.eit.specs.Records.{EventList, lent_list, record_size, records_of, numbers_of_all}
use Rattle.eit.specs.Sound.{ids_of}
use Rattle.eit.specs.declared.Place.{Place}
use Rattle.eit.specs.declared.Record.{Record}
use Rattle.eit.proofs.Overwrite.{over_length}
use Rattle.eit.proofs.Records.{numbers_length, numbers_append}
use Rattle.script.specs.Form.{withdraw}
use Rattle.script.specs.Machine.{without, zero_record, after_withdraw}
use Rattle.script.proofs.Placing.{without_length}
use Rattle.script.proofs.Steps.{withdraw_6, withdraw_passes}
use Rattle.list_records.specs.Written.{record_written}
use Rattle.list_records.proofs.WriteLaws.{over_ahead, written_is}
use Rattle.edit_answer.specs.declared.EditError.TheVariants.{WrongId}
use Rattle.edit_index.specs.Index.{Index}
use Rattle.edit_index.specs.Index.{no_slot, slot_record, held_records, held_starts, taken_out, indexed_numbers}
use Rattle.edit_index.specs.Index.{indexed_list}
use Rattle.edit.specs.Indexed.{Kept, Leaves}
use Rattle.edit.proofs.IndexedLaws.{does, stands_records, records_length, refuses, stays, passes, written_over}
use Rattle.edit.proofs.IndexedLaws.{absent, present, out_records, out_holds}

module _ (sizes : Sizes) (pools : Pools) (list : List ℕ) (x : Index) (k : Kept list x) (at : ℕ)
    (id : ℕ) where
  abbrev rs : List Record
  rs = held_records x

  abbrev stands : EventList
  stands = indexed_list list x

  pub withdraw_absent : get_or x.ids id no_slot ≡ no_slot
      → Leaves (does sizes pools list x k at (withdraw id)) (Err (WrongId at))
      list x
  withdraw_absent none =
      stays sizes pools list x k at (withdraw id) (WrongId at)
      (refuses sizes pools list x k at (withdraw id) 6
      (withdraw_6 sizes pools stands id
      (rw (stands_records sizes pools list x k at)
      (absent sizes pools list x k at id none))))

  pub withdraw_present : (some : get_or x.ids id no_slot ≡ no_slot → ⊥) (event : Record)
      → event ≡ slot_record x.slots (get_or x.ids id no_slot)
      → (p : Place) → p ≡ placing event.start (held_starts x)
      → (y : Index) → y ≡ taken_out (p.place - 1) id x
      → (newList : List ℕ) → newList ≡ record_written list y.count zero_record
      → Leaves (does sizes pools list x k at (withdraw id)) (Ok tt) newList y
  withdraw_present some event is p at_place y out newList cleared =
      let counted : y.count ≡ x.count - 1 = ap (λ (z : Index). z.count) out in
      let its : T (is_among id (ids_of rs)) = present sizes pools list x k at id some in
      let a : T (is_among id (ids_of (records_of stands))) =
      rw (stands_records sizes pools list x k at) its in
      let left : List Record = without id rs in
      let zeros : List ℕ = replicate record_size 0 in
      let size : suc (length left) ≡ x.count =
      without_length id rs its ∙ records_length sizes pools list x k at in
      let last : List ℕ = overwrite list ((x.count - 1) * record_size) zeros in
      let clears : newList ≡ last =
      cleared ∙ ap (λ (n : ℕ). record_written list n zero_record) counted
      ∙ written_is list (x.count - 1) zero_record (omega (arith, k.fits)) in
      let kept : length last ≡ length list =
      over_length list ((x.count - 1) * record_size) zeros (omega (arith, k.fits)) in
      let numbers : overwrite (indexed_numbers list x) 0 (numbers_of_all (left ++ (zero_record ∷ [])))
      ≡ indexed_numbers newList y =
      written_over sizes pools list x k at (left ++ (zero_record ∷ []))
      (omega (arith, length-append left (zero_record ∷ [])))
      ∙ ap (overwrite list 0) (numbers_append left (zero_record ∷ []))
      ∙ sym
      (over_ahead list ((x.count - 1) * record_size) zeros (omega (arith, k.fits)) 0 (numbers_of_all left)
      (omega (arith, numbers_length left)))
      ∙ sym
      (ap (λ (l : List ℕ). indexed_numbers l y) clears
      ∙ ap (λ (qs : List Record). overwrite last 0 (numbers_of_all qs))
      (out_records sizes pools list x k at id some event is p at_place y out)) in
      let next : after_withdraw stands id ≡ indexed_list newList y =
      ap
      (λ (qs : List Record).
      lent_list (overwrite (indexed_numbers list x) 0
      (numbers_of_all (without id qs ++ (zero_record ∷ [])))) (x.count - 1))
      (stands_records sizes pools list x k at)
      ∙ ap (λ (ns : List ℕ). lent_list ns (x.count - 1)) numbers
      ∙ ap (lent_list (indexed_numbers newList y)) (sym counted) in
      passes sizes pools list x k at (withdraw id) (after_withdraw stands id)
      (withdraw_passes sizes pools stands id a)
      newList y next
      (out_holds sizes pools list x k at id some event is p at_place y out)
      (omega (arith, k.fits, counted, ap length clears))
