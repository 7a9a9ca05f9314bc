-- One edit of the plain machine keeps a list sound: what it writes are records, which are read back as they are
-- (`records_front`). Assumes nothing.
use mathlib.Core.Path.{◌≡◌, sym, ◌∙◌}
use mathlib.Core.Logic.{◌↔◌}
use mathlib.Core.Bool.{Bool, true, false, not}
use Prim.Native.Nat.{ℕ, suc, ◌+◌, ◌-◌, ◌*◌, ◌≤◌, ◌<◌}
use native.Mathlib.Omega.{arith}
use mathlib.Core.List.{List, [], ◌∷◌, ◌++◌}
use lib.Dec.{T, ltb, ltb→lt}
use lib.ListN.{length, take, drop, length-append}
use lib.Seq.{take_all, take_at}
use Rattle.eit.specs.declared.Sizes.{Sizes}
use Rattle.eit.specs.Limits.{window_seconds}
use Rattle.eit.specs.Pools.{Pools}
use Rattle.eit.specs.Records.{EventList, record_size, records_of, numbers_of_all}
use Rattle.eit.specs.Among.{is_among}
use Rattle.eit.specs.Overlap.{overlaps_one}
use Rattle.eit.specs.Sound.{in_range, has_chain, ids_of, sound}
use Rattle.eit.specs.declared.Record.{Record}
use Rattle.eit.proofs.Test.{tests}
use Rattle.eit.proofs.Overwrite.{over_length}
use Rattle.eit.proofs.Records.{count_records, numbers_length, records_front}
use Rattle.eit.proofs.Sound.{RecordFacts, ListFacts, list_sound, sound_list}
use Rattle.script.specs.Machine.{limit_of, insert, find, without, moved, zero_record, written, after_put}
use Rattle.script.specs.Machine.{after_withdraw, after_move, Step, done, check, step}
use Rattle.script.specs.Form.{Act, put, withdraw, move}
use Rattle.script.proofs.Placing.{insert_length, without_length, insert_valid, without_valid, find_valid}
use Rattle.script.proofs.Placing.{apart_place, insert_rises, without_rises, insert_differ, without_differ}
use Rattle.script.proofs.Placing.{without_gone, find_id}
use Rattle.script.proofs.Steps.{done_none}

-- records written over the front of the buffer are the records of the list, as many as it counts
pub written_records : (list : EventList) (rs : List Record) (n : ℕ) → n ≤ length rs
    → records_of (written list rs n) ≡ take n rs
unfolding records_of
written_records list rs n h = records_front n rs (drop (0 + length (numbers_of_all rs)) list.buffer) h

-- the limit is the most records that the buffer holds, and no more than events may be
pub limit_is : (sizes : Sizes) (list : EventList) (n : ℕ)
    → (n ≤ limit_of sizes list) ↔ ((n * record_size ≤ length list.buffer) × (n ≤ sizes.event_limit))
limit_is sizes list n = (λ h. omega arith, λ h. omega arith)

-- the records after PUT, WITHDRAW and MOVE
module _ (list : EventList) where
  pub put_length : (r : Record) → length (insert r (records_of list)) ≡ list.count + 1
  put_length r = omega (arith, insert_length r (records_of list), count_records list)

  pub put_records : (r : Record) → records_of (after_put list r) ≡ insert r (records_of list)
  put_records r =
      let rs : List Record = insert r (records_of list) in
      let whole : length rs ≡ list.count + 1 = put_length r in
      written_records list rs (list.count + 1) (omega arith) ∙ take_all (list.count + 1) rs (omega arith)

  module _ (id : ℕ) (a : T (is_among id (ids_of (records_of list)))) where
    pub withdraw_length : suc (length (without id (records_of list))) ≡ list.count
    withdraw_length = without_length id (records_of list) a ∙ count_records list

    pub withdraw_records : records_of (after_withdraw list id) ≡ without id (records_of list)
    withdraw_records =
        let rs : List Record = without id (records_of list) in
        let last : length rs ≡ list.count - 1 = omega (arith, withdraw_length) in
        written_records list (rs ++ (zero_record ∷ [])) (list.count - 1)
        (omega (arith, length-append rs (zero_record ∷ [])))
        ∙ take_at rs (zero_record ∷ []) (list.count - 1) last

    pub move_length : (r : Record) → length (insert r (without id (records_of list))) ≡ list.count
    move_length r = insert_length r (without id (records_of list)) ∙ withdraw_length

    pub move_records : (start : ℕ)
        → records_of (after_move list id start) ≡ insert (moved id start (records_of list)) (without id (records_of list))
    move_records start =
        let r : Record = moved id start (records_of list) in
        let rs : List Record = insert r (without id (records_of list)) in
        let whole : length rs ≡ list.count = move_length r in
        written_records list rs list.count (omega arith) ∙ take_all list.count rs (omega arith)

-- ---- a sound list stays sound

module _ (sizes : Sizes) (pools : Pools) (list : EventList) where
  -- if what is written fits, and the records that are then counted are sound
  written_sound : (rs : List Record) (n : ℕ) → n ≤ length rs → n ≤ sizes.event_limit
      → length rs * record_size ≤ length list.buffer → RecordFacts pools (records_of (written list rs n))
      → ListFacts sizes pools (written list rs n)
  written_sound rs n h few held f =
      record {
        few = few;
        held = rw (over_length list.buffer 0 (numbers_of_all rs) (omega (arith, numbers_length rs))) (omega arith);
        records = f;
      }

  put_sound : (r : Record) → ListFacts sizes pools list → T (in_range r) → T (has_chain pools r)
      → T (not (is_among r.id (ids_of (records_of list)))) → T (not (overlaps_one r (records_of list)))
      → list.count < limit_of sizes list → ListFacts sizes pools (after_put list r)
  put_sound r f range chain id clear limit =
      let rs : List Record = records_of list in
      let whole : length (insert r rs) ≡ list.count + 1 = put_length list r in
      written_sound (insert r rs) (list.count + 1) (omega arith) (omega arith) (omega arith)
      (rw (put_records list r)
      record {
        valid = insert_valid pools r rs range chain f.records.valid;
        rises =
            insert_rises pools r rs (apart_place pools r rs range f.records.valid clear) f.records.rises;
        differ = insert_differ r rs id f.records.differ;
      })

  withdraw_sound : (id : ℕ) → ListFacts sizes pools list → T (is_among id (ids_of (records_of list)))
      → ListFacts sizes pools (after_withdraw list id)
  withdraw_sound id f a =
      let rs : List Record = records_of list in
      let more : length (without id rs ++ (zero_record ∷ [])) ≡ list.count =
      rw length-append (omega (arith, withdraw_length list id a)) in
      written_sound (without id rs ++ (zero_record ∷ [])) (list.count - 1) (omega arith) (omega (arith, f.few))
      (omega (arith, f.held))
      (rw (withdraw_records list id a)
      record {
        valid = without_valid pools id rs f.records.valid;
        rises = without_rises pools id rs f.records.rises;
        differ = without_differ id rs f.records.differ;
      })

  move_sound : (id start : ℕ) → ListFacts sizes pools list → T (ltb start window_seconds)
      → T (is_among id (ids_of (records_of list)))
      → T (not (overlaps_one (moved id start (records_of list)) (without id (records_of list))))
      → ListFacts sizes pools (after_move list id start)
  move_sound id start f limit a clear =
      let rs : List Record = records_of list in
      let r : Record = moved id start rs in
      let others : List Record = without id rs in
      let was = find_valid pools id rs a f.records.valid in
      let range : T (in_range r) = search (tests, was.0) in
      let gone : T (not (is_among (find id rs).id (ids_of others))) =
      rw (find_id id rs a) (without_gone id rs f.records.differ) in
      let valid = without_valid pools id rs f.records.valid in
      let whole : length (insert r others) ≡ list.count = move_length list id a r in
      written_sound (insert r others) list.count (omega arith) f.few (omega (arith, f.held))
      (rw (move_records list id a start)
      record {
        valid = insert_valid pools r others range was.1 valid;
        rises =
            insert_rises pools r others (apart_place pools r others range valid clear)
            (without_rises pools id rs f.records.rises);
        differ = insert_differ r others gone (without_differ id rs f.records.differ);
      })

-- ---- an edit that is not refused

-- a check that does not refuse has passed
check_done : (b : Bool) (n : ℕ) (s : Step) {next : EventList} → check b n s ≡ done next → T b × (s ≡ done next)
check_done true n s e = (tt, e)
check_done false n s {next} e = absurd (done_none next n (sym e))

module _ (sizes : Sizes) (pools : Pools) (list : EventList) where
  -- what PUT, WITHDRAW and MOVE have passed, and what they leave
  pub record PutDone (r : Record) (next : EventList) : Type 0 where
    pub range : T (in_range r)
    pub chain : T (has_chain pools r)
    pub new_id : T (not (is_among r.id (ids_of (records_of list))))
    pub apart : T (not (overlaps_one r (records_of list)))
    pub limit : T (ltb list.count (limit_of sizes list))
    pub after : next ≡ after_put list r

  pub record WithdrawDone (id : ℕ) (next : EventList) : Type 0 where
    pub old_id : T (is_among id (ids_of (records_of list)))
    pub after : next ≡ after_withdraw list id

  pub record MoveDone (id start : ℕ) (next : EventList) : Type 0 where
    pub range : T (ltb start window_seconds)
    pub old_id : T (is_among id (ids_of (records_of list)))
    pub apart : T (not (overlaps_one (moved id start (records_of list)) (without id (records_of list))))
    pub after : next ≡ after_move list id start

  pub put_done : (r : Record) (next : EventList) → step sizes pools list (put r) ≡ done next → PutDone r next
  unfolding step
  put_done r next e =
      let a = check_done (in_range r) 5 _ e in
      let b = check_done (has_chain pools r) 9 _ a.1 in
      let c = check_done (not (is_among r.id (ids_of (records_of list)))) 6 _ b.1 in
      let d = check_done (not (overlaps_one r (records_of list))) 30 _ c.1 in
      let f = check_done (ltb list.count (limit_of sizes list)) 8 _ d.1 in
      record {
        range = a.0;
        chain = b.0;
        new_id = c.0;
        apart = d.0;
        limit = f.0;
        after = cc f.1;
      }

  pub withdraw_done : (id : ℕ) (next : EventList) → step sizes pools list (withdraw id) ≡ done next
      → WithdrawDone id next
  unfolding step
  withdraw_done id next e =
      let a = check_done (is_among id (ids_of (records_of list))) 6 _ e in record { old_id = a.0; after = cc a.1 }

  pub move_done : (id start : ℕ) (next : EventList) → step sizes pools list (move id start) ≡ done next
      → MoveDone id start next
  unfolding step
  move_done id start next e =
      let a = check_done (ltb start window_seconds) 5 _ e in
      let b = check_done (is_among id (ids_of (records_of list))) 6 _ a.1 in
      let others : List Record = without id (records_of list) in
      let c = check_done (not (overlaps_one (moved id start (records_of list)) others)) 30 _ b.1 in
      record { range = a.0; old_id = b.0; apart = c.0; after = cc c.1 }

  -- it leaves a sound list sound
  pub step_sound : (a : Act) (next : EventList) → step sizes pools list a ≡ done next → T (sound sizes pools list)
      → T (sound sizes pools next)
  step_sound (put r) next e t =
      let p = put_done r next e in
      rw p.after
      (list_sound sizes pools (after_put list r)
      (put_sound sizes pools list r (sound_list sizes pools list t) p.range p.chain p.new_id p.apart
      (ltb→lt list.count (limit_of sizes list) p.limit)))
  step_sound (withdraw id) next e t =
      let p = withdraw_done id next e in
      rw p.after
      (list_sound sizes pools (after_withdraw list id)
      (withdraw_sound sizes pools list id (sound_list sizes pools list t) p.old_id))
  step_sound (move id start) next e t =
      let p = move_done id start next e in
      rw p.after
      (list_sound sizes pools (after_move list id start)
      (move_sound sizes pools list id start (sound_list sizes pools list t) p.range p.old_id p.apart))
