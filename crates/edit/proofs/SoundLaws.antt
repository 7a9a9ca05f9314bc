-- What a sound list gives: an index of its records is what an edit asks for, and an index can be made from it, which
-- then stands for it. Assumes nothing.
use mathlib.Core.Path.{◌≡◌, sym, ap, subst, ◌∙◌}
use mathlib.Core.List.{List}
use Prim.Native.Nat.{ℕ, ◌*◌, ◌≤◌, ◌<◌}
use native.Mathlib.Omega.{arith}
use lib.Dec.{T}
use lib.ListN.{length, get_or, length-map, get_or-map}
use Rattle.eit.specs.declared.Sizes.{Sizes}
use Rattle.eit.specs.Pools.{Pools}
use Rattle.eit.specs.Among.{is_among}
use Rattle.eit.specs.Records.{lent_list, record_size, records_of, records_in}
use Rattle.eit.specs.Sound.{ids_of, all_valid, sound}
use Rattle.eit.specs.declared.Record.{Record}
use Rattle.eit.proofs.Among.{among_at, among_found}
use Rattle.eit.proofs.Events.{rising_any}
use Rattle.eit.proofs.Records.{records_length, record_at_holds}
use Rattle.eit.proofs.Sound.{RecordFacts, sound_list, valid_at, range_facts}
use Rattle.script.specs.Machine.{zero_record}
use Rattle.edit_index.specs.Index.{Index}
use Rattle.edit_index.specs.Index.{slot_limit, id_limit, slot_record, held_records, Holds, loaded, indexed_list}
use Rattle.edit_index.proofs.IndexLaws.{index_records, indexed_own}
use Rattle.edit_index.proofs.LoadLaws.{Loadable, loaded_holds, loaded_count, loaded_records}
use Rattle.edit.specs.Indexed.{Kept}

-- ids of valid records are small
ids_small : (pools : Pools) (rs : List Record) → T (all_valid pools rs) → (id : ℕ) → T (is_among id (ids_of rs))
    → id < id_limit
ids_small pools rs valid id a =
    let found = among_found id (ids_of rs) a in
    let within : found.0 < length rs = omega (arith, length-map rs (λ (r : Record). r.id)) in
    let its : (get_or rs found.0 zero_record).id ≡ id =
    sym (get_or-map (λ (r : Record). r.id) rs found.0 zero_record) ∙ found.2 in
    omega (
      arith,
      (range_facts (get_or rs found.0 zero_record) (valid_at pools rs valid found.0 zero_record within).0).id,
    )

-- what an edit asks of an index
pub kept_sound : (sizes : Sizes) (pools : Pools) (list : List ℕ) (x : Index) → Holds x
    → x.count * record_size ≤ length list → T (sound sizes pools (indexed_list list x)) → Kept list x
kept_sound sizes pools list x h fits t =
    let facts : RecordFacts pools (held_records x) =
    subst (RecordFacts pools) (index_records h list) (sound_list sizes pools _ t).records in
    record {
      holds = h;
      fits = fits;
      rises = λ any. rising_any pools any (held_records x) facts.rises;
      differ = facts.differ;
      small = ids_small pools (held_records x) facts.valid;
    }

-- what an index is made from
pub loadable_sound : (sizes : Sizes) (pools : Pools) (list : List ℕ) (count : ℕ) → sizes.event_limit ≤ slot_limit
    → T (sound sizes pools (lent_list list count)) → Loadable list count
unfolding records_of
loadable_sound sizes pools list count capacity t =
    let facts = sound_list sizes pools (lent_list list count) t in
    let rs : List Record = records_in count list in
    let its_id : (i : ℕ) → i < count → get_or (ids_of rs) i 0 ≡ (slot_record list i).id =
    λ i within. get_or-map (λ (r : Record). r.id) rs i zero_record
    ∙ ap (λ (r : Record). r.id) (record_at_holds count list i zero_record within) in
    record {
      few = omega (arith, facts.few);
      small =
          λ i within.
          ids_small pools rs facts.records.valid (slot_record list i).id
          (subst (λ (id : ℕ). T (is_among id (ids_of rs))) (its_id i within)
          (among_at (ids_of rs) i (omega (arith, length-map rs (λ (r : Record). r.id), records_length count list))));
      differ = facts.records.differ;
    }

-- an index that is made from it holds its records, and stands for it
module _ (sizes : Sizes) (pools : Pools) (list : List ℕ) (count : ℕ) (capacity : sizes.event_limit ≤ slot_limit)
    (t : T (sound sizes pools (lent_list list count))) (begun : Index) (none : Holds begun) (empty : begun.count ≡ 0)
    (x : Index) (made : x ≡ loaded list count begun) where
  its : Loadable list count
  its = loadable_sound sizes pools list count capacity t

  pub made_holds : Holds x
  made_holds = rw made (loaded_holds list none empty count its)

  made_count : x.count ≡ count
  made_count = ap (λ (y : Index). y.count) made ∙ loaded_count list none empty count its

  pub made_fits : x.count * record_size ≤ length list
  made_fits = rw made_count (sound_list sizes pools (lent_list list count) t).held

  pub made_stands : indexed_list list x ≡ lent_list list count
  unfolding records_of
  made_stands =
      indexed_own list x made_fits
      (ap held_records made
      ∙ loaded_records list none empty count its
      ∙ ap (λ (n : ℕ). records_in n list) (sym made_count))
      ∙ ap (lent_list list) made_count
