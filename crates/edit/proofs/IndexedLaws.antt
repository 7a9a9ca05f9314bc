-- What an edit on an index leaves, by the tests that the code makes: the steps of the plain machine on the list that
-- the index stands for. A refusal changes nothing of that list; an edit that is done changes the index, and of the lent
-- list only what lies behind the records. By the laws of `step` and of the index. Assumes nothing.
use mathlib.Core.Path.{◌≡◌, ap, subst, ◌∙◌}
use mathlib.Core.Logic.{⊎_elim}
use mathlib.Core.Bool.{not}
use mathlib.Core.List.{List}
use Rattle.std.specs.Prelude.{Result, Ok, Err}
use Prim.Native.Nat.{ℕ, suc, ◌-◌, ◌*◌, ◌≤◌, ◌<◌}
use native.Mathlib.Omega.{arith}
use lib.Dec.{T, not_T}
use lib.ListN.{length, get_or, get_or-eq_default}
use Rattle.eit.specs.declared.Sizes.{Sizes}
use Rattle.eit.specs.Pools.{Pools}
use Rattle.eit.specs.Overwrite.{overwrite}
use Rattle.eit.specs.Among.{is_among}
use Rattle.eit.specs.Find.{position_of, place_of}
use Rattle.eit.specs.Placing.{placing}
use Rattle.eit.specs.Records.{EventList, record_size, records_of, numbers_of_all}
use Rattle.eit.specs.Sound.{ids_of, starts_of}
use Rattle.eit.specs.declared.Place.{Place}
use Rattle.eit.specs.declared.Record.{Record}
use Rattle.eit.proofs.Find.{position_length}
use Rattle.eit.proofs.Overwrite.{over_again}
use Rattle.eit.proofs.Records.{numbers_length}
use Rattle.eit.proofs.Test.{le_or_lt}
use Rattle.script.specs.Form.{Act, Command, do_edit}
use Rattle.script.specs.Machine.{step, done, refused, find, without}
use Rattle.script.specs.Edit as model
use Rattle.edit_answer.specs.Outcome.{outcome_of}
use Rattle.edit_answer.specs.declared.EditError.{EditError}
use Rattle.edit_index.specs.Index.{Index}
use Rattle.edit_index.specs.Index.{id_limit, no_slot, slot_record, held_records, held_starts, Holds, taken_out}
use Rattle.edit_index.specs.Index.{indexed_numbers, indexed_list}
use Rattle.edit_index.specs.Rises.{Rises}
use Rattle.edit_index.proofs.IndexLaws.{held_length, index_records, held_place, id_absent, id_present}
use Rattle.edit_index.proofs.IndexLaws.{id_record}
use Rattle.edit_index.proofs.TakeOutLaws.{take_out_records, take_out_holds}
use Rattle.edit_index.proofs.RiseLaws.{rising_starts, own_place}
use Rattle.edit.specs.Run.{run_one}
use Rattle.edit.specs.Indexed.{Kept, Leaves}
use Rattle.edit.proofs.RunLaws.{one_done, one_refused}

-- the same command in other words
pub leaves_as : (sizes : Sizes) (pools : Pools) (before : EventList) {r : Result (Unit {0}) EditError} {list : List ℕ} {x : Index}
    (c d : Command) → c ≡ d
    → Leaves (run_one sizes pools before c) r list x → Leaves (run_one sizes pools before d) r list x
leaves_as sizes pools before {r} {list} {x} c d e l =
    subst (λ (b : Command). Leaves (run_one sizes pools before b) r list x) e l

module _ (sizes : Sizes) (pools : Pools) (list : List ℕ) (x : Index) (k : Kept list x) (at : ℕ) where
  abbrev rs : List Record
  rs = held_records x

  abbrev stands : EventList
  stands = indexed_list list x

  -- what one edit comes to
  abbrev pub does : Act → model.Edited
  does a = run_one sizes pools stands (do_edit (record { at = at; act = a }))

  pub stands_records : records_of stands ≡ rs
  stands_records = index_records k.holds list

  pub records_length : length rs ≡ x.count
  records_length = held_length k.holds

  pub starts_rise : Rises (starts_of (held_records x))
  starts_rise = rising_starts pools rs (k.rises pools)

  -- what the search finds
  pub found_place : (p : Place) (start : ℕ) → p ≡ placing start (held_starts x)
      → p.place ≡ place_of start (held_records x)
  found_place p start is = ap (λ (q : Place). q.place) is ∙ held_place k.holds start

  -- ---- a refusal changes nothing

  pub refuses : (a : Act) (number : ℕ) → step sizes pools stands a ≡ refused number
      → does a ≡ record { number = number; value = at; list = stands }
  refuses a number q = one_refused sizes pools stands (record { at = at; act = a }) number q

  pub stays : (a : Act) (e : EditError) → does a ≡ outcome_of (Err e) x.count (indexed_numbers list x)
      → Leaves (does a) (Err e) list x
  stays a e q = record { says = q; holds = k.holds; fits = k.fits }

  -- ---- an edit that is done

  pub passes : (a : Act) (next : EventList) → step sizes pools stands a ≡ done next
      → (newList : List ℕ) (y : Index) → next ≡ indexed_list newList y
      → Holds y → y.count * record_size ≤ length newList
      → Leaves (does a) (Ok tt) newList y
  passes a next q newList y same holds fits =
      record {
        says =
            one_done sizes pools stands (record { at = at; act = a }) next q
            ∙ (λ i. record { number = 0; value = (same i).count; list = same i });
        holds = holds;
        fits = fits;
      }

  -- the records that it writes over the stale ones
  pub written_over : (qs : List Record) → x.count ≤ length qs
      → overwrite (indexed_numbers list x) 0 (numbers_of_all qs) ≡ overwrite list 0 (numbers_of_all qs)
  written_over qs many =
      over_again list 0 (numbers_of_all rs) (numbers_of_all qs)
      (omega (arith, numbers_length rs, numbers_length qs, records_length)) (omega arith)

  -- ---- the record of an id

  module _ (id : ℕ) where
    pub absent : get_or x.ids id no_slot ≡ no_slot → T (not (is_among id (ids_of (held_records x))))
    absent none =
        ⊎_elim (λ large. not_T (is_among id (ids_of rs)) (λ a. omega (arith, k.small id a)))
        (λ small. id_absent k.holds id small none) (le_or_lt id_limit id)

    module _ (some : get_or x.ids id no_slot ≡ no_slot → ⊥) where
      pub id_small : id < id_limit
      id_small =
          ⊎_elim
          (λ large. absurd (some (get_or-eq_default x.ids no_slot (omega (arith, k.holds.ids_size)))))
          (λ small. small)
          (le_or_lt id_limit id)

      pub present : T (is_among id (ids_of (held_records x)))
      present = id_present k.holds id id_small some

      module _ (event : Record) (is : event ≡ slot_record x.slots (get_or x.ids id no_slot)) where
        pub its_record : event ≡ find id (held_records x)
        its_record = is ∙ id_record k.holds id id_small present

        -- it stands before the place of its start
        module _ (p : Place) (at_place : p ≡ placing event.start (held_starts x)) where
          pub its_place : p.place ≡ suc (position_of id (held_records x))
          its_place =
              found_place p event.start at_place
              ∙ ap (λ (r : Record). place_of r.start rs) its_record
              ∙ own_place id rs present starts_rise

          pub its_position : p.place - 1 ≡ position_of id (held_records x)
          its_position = omega (arith, its_place)

          pub some_records : p.place ≤ x.count
          some_records = omega (arith, its_place, position_length id rs present, records_length)

          module _ (y : Index) (out : y ≡ taken_out (p.place - 1) id x) where
            pub out_records : held_records y ≡ without id (held_records x)
            out_records =
                ap held_records out
                ∙ take_out_records k.holds id id_small present k.differ (p.place - 1) its_position

            pub out_holds : Holds y
            out_holds =
                rw out (take_out_holds k.holds id id_small present k.differ (p.place - 1) its_position)
