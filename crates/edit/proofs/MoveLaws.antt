-- What MOVE on an index leaves, by the tests that the code makes: the record is taken out, and put in the place of its
-- new start among the others. One law for each return. Assumes nothing.
use mathlib.Core.Path.{◌≡◌, refl, sym, ap, ap₂, ◌∙◌}
use mathlib.Core.Bool.{true, false, not}
use mathlib.Core.List.{List, ◌∷◌, ◌++◌}
use Rattle.std.specs.Prelude.{Result, Ok, Err}
use mathlib.Core.Logic.{⊎_elim}
use Prim.Native.Nat.{ℕ, suc, ◌-◌, ◌≤◌, ◌<◌}
use native.Mathlib.Omega.{arith}
use borrow.Author.Tests.{le-leb, lt-leb}
use lib.Dec.{T, ltb}
use lib.ListN.{length, get_or, take, drop}
use Rattle.eit.specs.declared.Sizes.{Sizes}
use Rattle.eit.specs.Limits.{window_seconds}
use Rattle.eit.specs.Pools.{Pools}
use Rattle.eit.specs.Overwrite.{overwrite}
use Rattle.eit.specs.Among.{is_among}
use Rattle.eit.specs.Find.{position_of, place_of}
use Rattle.eit.specs.Overlap.{overlaps_one}
use Rattle.eit.specs.Placing.{placing}
use Rattle.eit.specs.Records.{EventList, lent_list, records_of, numbers_of_all}
use Rattle.eit.specs.Sound.{ids_of, starts_of}
use Rattle.eit.specs.declared.Place.{Place}
use Rattle.eit.specs.declared.Record.{Record}
use Rattle.eit.proofs.Find.{place_length}
use Rattle.eit.proofs.OverlapLaws.{overlaps_beside, overlap_by_place}
use Rattle.eit.proofs.Test.{le_or_lt}
use Rattle.script.specs.Form.{move}
use Rattle.script.specs.Machine.{insert, find, without, with_start, moved, after_move}
use Rattle.script.proofs.Placing.{insert_length, without_length, without_rises, without_gone, find_id}
use Rattle.script.proofs.Places.{insert_place, without_position}
use Rattle.script.proofs.Steps.{move_5, move_6, move_30, move_passes}
use Rattle.edit_answer.specs.declared.EditError.{EditError}
use Rattle.edit_answer.specs.declared.EditError.TheVariants.{OutOfRange, WrongId, Overlap}
use Rattle.edit_index.specs.Index.{Index}
use Rattle.edit_index.specs.Index.{slot_limit, id_limit, no_slot, slot_record, held_records, held_starts, Holds}
use Rattle.edit_index.specs.Index.{added, taken_out, indexed_numbers, indexed_list}
use Rattle.edit_index.specs.Neighbours.{overlaps_neighbour}
use Rattle.edit_index.specs.Rises.{Rises}
use Rattle.edit_index.proofs.SlotLaws.{leave}
use Rattle.edit_index.proofs.NeighbourLaws.{neighbour_is}
use Rattle.edit_index.proofs.AddLaws.{add_count, add_records, add_holds}
use Rattle.edit_index.proofs.RiseLaws.{place_left_before, place_left_behind}
use Rattle.edit.specs.Indexed.{place_left, Kept, Leaves}
use Rattle.edit.proofs.IndexedLaws.{does, stands_records, records_length, found_place, refuses, stays}
use Rattle.edit.proofs.IndexedLaws.{starts_rise, passes, written_over, absent, present, id_small, its_record}
use Rattle.edit.proofs.IndexedLaws.{its_place, its_position, out_records, out_holds}
use Rattle.edit.proofs.PutLaws.{holds, fails}

module _ (sizes : Sizes) (pools : Pools) (list : List ℕ) (x : Index) (k : Kept list x) (at : ℕ)
    (id start : ℕ) where
  abbrev rs : List Record
  rs = held_records x

  abbrev stands : EventList
  stands = indexed_list list x

  rise : Rises (starts_of (held_records x))
  rise = starts_rise sizes pools list x k at

  -- what it leaves, with the index y
  abbrev Left : Result (Unit {0}) EditError → Index → Type 0
  Left r y = Leaves (does sizes pools list x k at (move id start)) r list y

  pub move_outside : ltb start window_seconds ≡ false → Left (Err (OutOfRange at)) x
  move_outside e =
      stays sizes pools list x k at (move id start) (OutOfRange at)
      (refuses sizes pools list x k at (move id start) 5
      (move_5 sizes pools stands id start (fails e)))

  module _ (range : ltb start window_seconds ≡ true) where
    pub move_absent : get_or x.ids id no_slot ≡ no_slot → Left (Err (WrongId at)) x
    move_absent none =
        stays sizes pools list x k at (move id start) (WrongId at)
        (refuses sizes pools list x k at (move id start) 6
        (move_6 sizes pools stands id start (holds range)
        (rw (stands_records sizes pools list x k at)
        (absent sizes pools list x k at id none))))

    module _ (some : get_or x.ids id no_slot ≡ no_slot → ⊥) (event : Record) (is : event ≡ slot_record x.slots (get_or x.ids id no_slot)) where
      abbrev others : List Record
      others = without id (held_records x)

      old : T (is_among id (ids_of rs))
      old = present sizes pools list x k at id some

      old_id : T (is_among id (ids_of (records_of stands)))
      old_id = rw (stands_records sizes pools list x k at) old

      its : event ≡ find id rs
      its = its_record sizes pools list x k at id some event is

      its_id : event.id ≡ id
      its_id = ap (λ (r : Record). r.id) its ∙ find_id id rs old

      module _ (p : Place) (at_place : p ≡ placing start (held_starts x)) (own : Place)
          (at_own : own ≡ placing event.start (held_starts x)) where
        abbrev left : Index
        left = taken_out (own.place - 1) id x

        left_records : held_records left ≡ others
        left_records = out_records sizes pools list x k at id some event is own at_own left refl

        left_holds : Holds left
        left_holds = out_holds sizes pools list x k at id some event is own at_own left refl

        others_length : suc (length others) ≡ x.count
        others_length = without_length id rs old ∙ records_length sizes pools list x k at

        -- the place among the others
        left_place : place_left p.place own.place ≡ place_of start others
        left_place =
            let was : own.place ≡ suc (position_of id rs) =
            its_place sizes pools list x k at id some event is own at_own in
            let all : p.place ≡ place_of start rs =
            found_place sizes pools list x k at p start at_place in
            ⊎_elim
            (λ before.
            rw (place_left, le-leb own.place p.place before)
            (ap (λ (n : ℕ). n - 1) all ∙ sym (place_left_before id rs old rise start (omega arith))))
            (λ behind.
            rw (place_left, lt-leb own.place p.place behind)
            (all ∙ sym (place_left_behind id rs old rise start (omega arith))))
            (le_or_lt own.place p.place)

        -- to is its new place among the others, m the record as it then is
        module _ (to : ℕ) (is-to : to ≡ place_left p.place own.place) (m : Record)
            (is_m : m ≡ with_start start event) where
          at_others : to ≡ place_of start others
          at_others = is-to ∙ left_place

          same : m ≡ moved id start rs
          same = is_m ∙ ap (with_start start) its

          -- the two beside the place decide
          beside : overlaps_one (moved id start (records_of stands)) (without id (records_of stands))
              ≡ overlaps_neighbour m x (own.place - 1) to
          beside =
              let pools : Pools = pools in
              let out : own.place - 1 ≡ position_of id rs =
              its_position sizes pools list x k at id some event is own at_own in
              let all : leave (own.place - 1) rs ≡ others =
              ap (λ (n : ℕ). leave n rs) out ∙ sym (without_position id rs old) in
              ap (λ (qs : List Record). overlaps_one (moved id start qs) (without id qs))
              (stands_records sizes pools list x k at)
              ∙ ap (λ (q : Record). overlaps_one q others) (sym same)
              ∙ overlap_by_place pools m others (without_rises pools id rs (k.rises pools))
              ∙ ap₂ (overlaps_beside m) (ap (λ (q : Record). place_of q.start others) is_m ∙ sym at_others) (sym all)
              ∙ sym (neighbour_is k.holds m (own.place - 1) to)

          pub move_overlaps : overlaps_neighbour m x (own.place - 1) to ≡ true
              → Left (Err (Overlap at)) x
          move_overlaps e =
              stays sizes pools list x k at (move id start) (Overlap at)
              (refuses sizes pools list x k at (move id start) 30
              (move_30 sizes pools stands id start (holds range) old_id (holds (beside ∙ e))))

          -- it goes to its new place: z is the index then
          pub move_goes : overlaps_neighbour m x (own.place - 1) to ≡ false
              → (z : Index) → z ≡ added to m (taken_out (own.place - 1) id x) → Left (Ok tt) z
          move_goes clear z is-z =
              let r : Record = moved id start rs in
              let same_id : m.id ≡ id = ap (λ (q : Record). q.id) is_m ∙ its_id in
              let there : to ≤ x.count - 1 = omega (arith, at_others, place_length start others, others_length) in
              let room : x.count - 1 < slot_limit = omega (arith, k.holds.few, others_length) in
              let counted : z.count ≡ x.count =
              ap (λ (y : Index). y.count) is-z ∙ add_count left_holds room to m there ∙ omega (arith, others_length) in
              let small : m.id < id_limit =
              omega (arith, same_id, id_small sizes pools list x k at id some) in
              let gone : T (not (is_among m.id (ids_of (held_records left)))) =
              rw (left_records, same_id) (without_gone id rs k.differ) in
              let records : held_records z ≡ insert r others =
              ap held_records is-z
              ∙ add_records left_holds room to m there
              ∙ ap (λ (qs : List Record). take to qs ++ m ∷ drop to qs) left_records
              ∙ ap₂ (λ (n : ℕ) (q : Record). take n others ++ q ∷ drop n others) at_others same
              ∙ sym (insert_place r others) in
              let after : after_move stands id start ≡ indexed_list list z =
              ap
              (λ (qs : List Record).
              lent_list (overwrite (indexed_numbers list x) 0
              (numbers_of_all (insert (moved id start qs) (without id qs)))) x.count)
              (stands_records sizes pools list x k at)
              ∙ ap (λ (ns : List ℕ). lent_list ns x.count)
              (written_over sizes pools list x k at (insert r others)
              (omega (arith, insert_length r others, others_length))
              ∙ ap (λ (qs : List Record). overwrite list 0 (numbers_of_all qs)) (sym records))
              ∙ ap (lent_list (indexed_numbers list z)) (sym counted) in
              passes sizes pools list x k at (move id start) (after_move stands id start)
              (move_passes sizes pools stands id start (holds range) old_id
              (fails (beside ∙ clear)))
              list z after (rw is-z (add_holds left_holds room to m there small gone)) (omega (arith, k.fits, counted))
