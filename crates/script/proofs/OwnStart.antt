-- MOVE of an event onto its own start succeeds and changes nothing: the record that is taken away is inserted where it
-- was. By induction over the records, whose starts rise. Assumes nothing.
use mathlib.Core.Path.{◌≡◌, refl, ap, ap₂, ◌∙◌}
use mathlib.Core.Logic.{⊎_elim}
use mathlib.Core.Bool.{not}
use Prim.Native.Nat.{ℕ, ◌*◌, ◌<◌}
use native.Mathlib.Omega.{arith}
use mathlib.Core.List.{List, [], ◌∷◌}
use lib.Dec.{T, eqb, ltb, lt→ltb}
use lib.Arith.{le→nltb}
use lib.ListN.{take}
use Rattle.eit.specs.declared.Sizes.{Sizes}
use Rattle.eit.specs.Limits.{window_seconds}
use Rattle.eit.specs.Overwrite.{overwrite}
use Rattle.eit.specs.Pools.{Pools}
use Rattle.eit.specs.Records.{EventList, record_size, records_of, numbers_of_all}
use Rattle.eit.specs.Events.{event_of, events_in, follows, rising}
use Rattle.eit.specs.Among.{is_among}
use Rattle.eit.specs.Overlap.{overlap, overlaps_one}
use Rattle.eit.specs.Sound.{ids_of, sound}
use Rattle.eit.specs.declared.Record.{Record}
use Rattle.eit.proofs.Test.{tests, nor_both, test_or}
use Rattle.eit.proofs.Overwrite.{over_self}
use Rattle.eit.proofs.Records.{numbers_back}
use Rattle.eit.proofs.Events.{AllAfter, AllFollow, rising_rest, rising_after, rising_follow}
use Rattle.eit.proofs.OverlapLaws.{follows_apart, follows_apart_back}
use Rattle.eit.proofs.Sound.{sound_list}
use Rattle.script.specs.Form.{move}
use Rattle.script.specs.Machine.{insert, find, without, after_move, done, step}
use Rattle.script.proofs.Steps.{move_passes}
use Rattle.script.proofs.Placing.{insert_here, insert_later, without_here, without_later, find_here, find_later}
use Rattle.script.proofs.Placing.{among_later, find_valid}

module _ (pools : Pools) where
  -- a record among later ones starts later
  find_after : (s id : ℕ) (rs : List Record) → T (is_among id (ids_of rs)) → AllAfter s (events_in pools rs)
      → s < (find id rs).start
  find_after s id [] a after = absurd a
  find_after s id (r ∷ rs) a after =
      ⊎_elim (λ t. rw (find_here id r rs t) after.0)
      (λ t. rw (find_later id r rs t) (find_after s id rs (among_later id r rs t a) after.1))
      (test_or (eqb id r.id))

  -- a record before all others is inserted in front
  insert_first : (r : Record) (rs : List Record) → AllAfter r.start (events_in pools rs) → insert r rs ≡ r ∷ rs
  insert_first r [] after = refl
  insert_first r (s ∷ rs) after = insert_here r s rs (lt→ltb r.start s.start after.0)

  insert_back : (id : ℕ) (rs : List Record) → T (is_among id (ids_of rs)) → T (rising (events_in pools rs))
      → insert (find id rs) (without id rs) ≡ rs
  insert_back id [] a t = absurd a
  insert_back id (r ∷ rs) a t =
      let after = rising_after (event_of pools r) (events_in pools rs) t in
      ⊎_elim
      (λ here. ap₂ insert (find_here id r rs here) (without_here id r rs here) ∙ insert_first r rs after)
      (λ there.
      let later = find_after r.start id rs (among_later id r rs there a) after in
      ap₂ insert (find_later id r rs there) (without_later id r rs there)
      ∙ insert_later (find id rs) r (without id rs) (le→nltb (find id rs).start r.start (omega arith))
      ∙ ap (λ (ss : List Record). r ∷ ss)
      (insert_back id rs (among_later id r rs there a) (rising_rest (event_of pools r) (events_in pools rs) t)))
      (test_or (eqb id r.id))

  -- an event that all others follow overlaps none of them, and neither does one that follows
  first_apart : (r : Record) (rs : List Record) → AllFollow (event_of pools r) (events_in pools rs)
      → T (not (overlaps_one r rs))
  first_apart r [] all = tt
  first_apart r (s ∷ rs) all =
      nor_both (overlap r s) (overlaps_one r rs) (follows_apart pools r s all.0) (first_apart r rs all.1)

  find_follows : (r : Record) (id : ℕ) (rs : List Record) → T (is_among id (ids_of rs))
      → AllFollow (event_of pools r) (events_in pools rs) → T (follows (event_of pools r) (event_of pools (find id rs)))
  find_follows r id [] a all = absurd a
  find_follows r id (s ∷ rs) a all =
      ⊎_elim (λ t. rw (find_here id s rs t) all.0)
      (λ t. rw (find_later id s rs t) (find_follows r id rs (among_later id s rs t a) all.1))
      (test_or (eqb id s.id))

  own_apart : (id : ℕ) (rs : List Record) → T (is_among id (ids_of rs)) → T (rising (events_in pools rs))
      → T (not (overlaps_one (find id rs) (without id rs)))
  own_apart id [] a t = absurd a
  own_apart id (r ∷ rs) a t =
      let all = rising_follow (event_of pools r) (events_in pools rs) t in
      ⊎_elim (λ here. rw (find_here id r rs here, without_here id r rs here) (first_apart r rs all))
      (λ there.
      let among = among_later id r rs there a in
      rw (find_later id r rs there, without_later id r rs there)
      (nor_both (overlap (find id rs) r) (overlaps_one (find id rs) (without id rs))
      (follows_apart_back pools r (find id rs) (find_follows r id rs among all))
      (own_apart id rs among (rising_rest (event_of pools r) (events_in pools rs) t))))
      (test_or (eqb id r.id))

module _ (sizes : Sizes) (pools : Pools) (list : EventList) (id : ℕ) (t : T (sound sizes pools list))
    (a : T (is_among id (ids_of (records_of list)))) where
  -- the records are written over themselves
  move_same : after_move list id (find id (records_of list)).start ≡ list
  unfolding records_of
  move_same =
      let f = sound_list sizes pools list t in
      let rs : List Record = records_of list in
      let same : numbers_of_all (insert (find id rs) (without id rs)) ≡ take (list.count * record_size) list.buffer =
      ap numbers_of_all (insert_back pools id rs a f.records.rises)
      ∙ numbers_back list.count list.buffer f.held in
      let buffer : overwrite list.buffer 0 (numbers_of_all (insert (find id rs) (without id rs))) ≡ list.buffer =
      ap (overwrite list.buffer 0) same ∙ over_self list.buffer 0 (list.count * record_size) in
      λ i. record { buffer = buffer i; count = list.count }

  pub move_own : step sizes pools list (move id (find id (records_of list)).start) ≡ done list
  move_own =
      let f = sound_list sizes pools list t in
      let rs : List Record = records_of list in
      let start : ℕ = (find id rs).start in
      let was = find_valid pools id rs a f.records.valid in
      let range : T (ltb start window_seconds) = search (tests, was.0) in
      move_passes sizes pools list id start range a (own_apart pools id rs a f.records.rises)
      ∙ ap done move_same
