-- What W-204 claims holds: by the laws of events that overlap, and by the order of an edit's checks. Assumes nothing.
use mathlib.Core.Path.{◌≡◌}
use mathlib.Core.Logic.{⊎_elim}
use mathlib.Core.Bool.{Bool, true, false, not}
use Prim.Native.Nat.{ℕ, suc, ◌≤◌, ◌<◌}
use native.Mathlib.Omega.{arith}
use mathlib.Core.List.{List}
use lib.Dec.{T, ltb}
use lib.ListN.{length, get_or, length-map, get_or-map}
use Rattle.eit.specs.declared.Sizes.{Sizes}
use Rattle.eit.specs.Limits.{window_seconds}
use Rattle.eit.specs.Pools.{Pools}
use Rattle.eit.specs.Records.{EventList, records_of}
use Rattle.eit.specs.Among.{is_among}
use Rattle.eit.specs.Events.{Event, event_of, events_in, rising}
use Rattle.eit.specs.Overlap.{end_of, OnTogether, overlaps_one}
use Rattle.eit.specs.Sound.{in_range, has_chain, all_valid, ids_of, sound}
use Rattle.eit.specs.declared.Record.{Record}
use Rattle.eit.proofs.Events.{follows_end, later_follows, rising_at, rising_all}
use Rattle.eit.proofs.OverlapLaws.{overlap_second, overlaps_at_holds, overlaps_found}
use Rattle.eit.proofs.Records.{count_records}
use Rattle.eit.proofs.Sound.{list_sound, sound_list, valid_at, valid_all, range_facts}
use Rattle.eit.proofs.Test.{tests, le_or_lt}
use Rattle.script.specs.Form.{Act, put, withdraw, move}
use Rattle.script.specs.Machine.{zero_record, limit_of, without, moved}
use Rattle.script.specs.Machine.{Step, refused, check, step}
use Rattle.script.specs.NoOverlap.{record_at, OnWithOne, SoundList, PassesBefore, WouldOverlap}
use Rattle.script.specs.NoOverlap.{NoOverlap}
use Rattle.script.proofs.Edit.{edit_sound}
use Rattle.script.proofs.Placing.{find_valid, without_valid}
use Rattle.script.proofs.Steps.{done_none, put_30, move_30}

-- ---- sound lists

module _ (pools : Pools) (rs : List Record) where
  -- event i of some records is record i's
  event_at_holds : (i : ℕ) → get_or (events_in pools rs) i (event_of pools zero_record) ≡ event_of pools (get_or rs i zero_record)
  event_at_holds i = get_or-map (event_of pools) rs i zero_record

  rising_next : T (rising (events_in pools rs)) → (i j : ℕ) → i < j → j < length rs
      → end_of (get_or rs i zero_record) ≤ (get_or rs j zero_record).start
  rising_next t i j less within =
      let e : Event = event_of pools (get_or rs i zero_record) in
      let f : Event = event_of pools (get_or rs j zero_record) in
      let at-any = rising_at (events_in pools rs) t i j (event_of pools zero_record) less
      (omega (arith, length-map rs (event_of pools))) in
      follows_end e f (rw (event_at_holds i, event_at_holds j) at at-any)

  next_rising : ((i : ℕ) → i < length rs → 1 ≤ (get_or rs i zero_record).duration)
      → ((i : ℕ) → suc i < length rs → end_of (get_or rs i zero_record) ≤ (get_or rs (suc i) zero_record).start)
      → T (rising (events_in pools rs))
  next_rising lasts ends =
      rising_all (events_in pools rs) (event_of pools zero_record)
      (λ i within.
      let few : suc i < length rs = omega (arith, length-map rs (event_of pools)) in
      rw (event_at_holds i, event_at_holds (suc i))
      (later_follows (event_of pools (get_or rs i zero_record)) (event_of pools (get_or rs (suc i) zero_record))
      (omega (arith, lasts i (omega arith), ends i few)) (ends i few)))

module _ (sizes : Sizes) (pools : Pools) (list : EventList) where
  abbrev records : List Record
  records = records_of list

  sound_is : T (sound sizes pools list) → SoundList sizes pools list
  sound_is t =
      let f = sound_list sizes pools list t in
      record {
        few = f.few;
        held = f.held;
        valid = λ i within.
            valid_at pools records f.records.valid i zero_record (omega (arith, count_records list));
        ends = λ i within.
            rising_next pools records f.records.rises i (suc i) (omega arith) (omega (arith, count_records list));
        differ = f.records.differ;
      }

  is_sound_holds : SoundList sizes pools list → T (sound sizes pools list)
  is_sound_holds f =
      list_sound sizes pools list
      (record {
        few = f.few;
        held = f.held;
        records = record {
          valid = valid_all pools records zero_record (λ i within. f.valid i (omega (arith, count_records list)));
          rises =
              next_rising pools records
              (λ i within.
              (range_facts (record_at list i) (f.valid i (omega (arith, count_records list))).0).duration_low)
              (λ i within. f.ends i (omega (arith, count_records list)));
          differ = f.differ;
        };
      })

  together_same : T (sound sizes pools list) → (i j : ℕ) → i < list.count → j < list.count
      → OnTogether (record_at list i) (record_at list j) → i ≡ j
  together_same t i j first second on =
      let rises = (sound_list sizes pools list t).records.rises in
      let few : j < length records = omega (arith, count_records list) in
      let few-too : i < length records = omega (arith, count_records list) in
      ⊎_elim
      (λ (h : i ≤ j).
      ⊎_elim (λ (back : j ≤ i). omega arith)
      (λ (less : i < j). absurd (omega (arith, rising_next pools records rises i j less few, on.1, on.2)))
      (le_or_lt j i))
      (λ (less : j < i). absurd (omega (arith, rising_next pools records rises j i less few-too, on.1, on.2)))
      (le_or_lt i j)

-- ---- 30

-- a check of another number is passed; of its own number it fails, or one behind it does
check_other : (b : Bool) (n m : ℕ) (s : Step) → (n ≡ m → ⊥) → check b n s ≡ refused m → T b × (s ≡ refused m)
check_other true n m s other e = (tt, e)
check_other false n m s other e = absurd (other cc)

check_own : (b : Bool) (n : ℕ) (s : Step) → (s ≡ refused n → ⊥) → check (not b) n s ≡ refused n → T b
check_own true n s none e = tt
check_own false n s none e = absurd (none e)

-- an event overlaps one of some that last exactly if it is on with it
module _ (pools : Pools) (r : Record) (ss : List Record) (range : T (in_range r)) (valid : T (all_valid pools ss)) where
  lasts_at : (i : ℕ) → i < length ss → 1 ≤ (get_or ss i zero_record).duration
  lasts_at i within =
      (range_facts (get_or ss i zero_record) (valid_at pools ss valid i zero_record within).0).duration_low

  overlaps_on : T (overlaps_one r ss) → OnWithOne r ss
  overlaps_on t =
      let (i, within, is) = overlaps_found r ss zero_record t in
      (i, within, (overlap_second r (get_or ss i zero_record) (range_facts r range).duration_low (lasts_at i within)).0 is)

  on_overlaps : OnWithOne r ss → T (overlaps_one r ss)
  on_overlaps on =
      let (i, within, is) = on in
      overlaps_at_holds r ss i zero_record within
      ((overlap_second r (get_or ss i zero_record) (range_facts r range).duration_low (lasts_at i within)).1 is)

module _ (sizes : Sizes) (pools : Pools) (list : EventList) (t : T (sound sizes pools list)) where
  abbrev rs : List Record
  rs = records_of list

  valid : T (all_valid pools rs)
  valid = (sound_list sizes pools list t).records.valid

  thirty_passes : (a : Act) → step sizes pools list a ≡ refused 30 → PassesBefore pools list a × WouldOverlap list a
  unfolding step
  thirty_passes (put r) e =
      let a = check_other (in_range r) 5 30 _ (λ z. omega arith) e in
      let b = check_other (has_chain pools r) 9 30 _ (λ z. omega arith) a.1 in
      let c = check_other (not (is_among r.id (ids_of rs))) 6 30 _ (λ z. omega arith) b.1 in
      let d =
      check_own (overlaps_one r rs) 30 _
      (λ f. done_none _ 30 (check_other (ltb list.count (limit_of sizes list)) 8 30 _ (λ z. omega arith) f).1)
      c.1 in
      ((a.0, b.0, c.0), overlaps_on pools r rs a.0 valid d)
  thirty_passes (withdraw id) e =
      absurd (done_none _ 30 (check_other (is_among id (ids_of rs)) 6 30 _ (λ z. omega arith) e).1)
  thirty_passes (move id start) e =
      let others : List Record = without id rs in
      let a = check_other (ltb start window_seconds) 5 30 _ (λ z. omega arith) e in
      let b = check_other (is_among id (ids_of rs)) 6 30 _ (λ z. omega arith) a.1 in
      let c =
      check_own (overlaps_one (moved id start rs) others) 30 _ (done_none _ 30) b.1 in (
        (a.0, b.0),
        overlaps_on pools (moved id start rs) others (moved_range id start a.0 b.0)
            (without_valid pools id rs valid) c,
      )
    where
      moved_range : (id start : ℕ) → T (ltb start window_seconds) → T (is_among id (ids_of rs))
          → T (in_range (moved id start rs))
      moved_range id start limit a = let was = find_valid pools id rs a valid in search (tests, was.0)

  passes_thirty : (a : Act) → PassesBefore pools list a → WouldOverlap list a → step sizes pools list a ≡ refused 30
  passes_thirty (put r) (range, chain, new) on =
      put_30 sizes pools list r range chain new (on_overlaps pools r rs range valid on)
  passes_thirty (withdraw id) old on = absurd on
  passes_thirty (move id start) (limit, old) on =
      let was = find_valid pools id rs old valid in
      move_30 sizes pools list id start limit old
      (on_overlaps pools (moved id start rs) (without id rs) (search (tests, was.0)) (without_valid pools id rs valid)
      on)

pub no_overlap : NoOverlap
no_overlap =
    record {
      sound_exactly = λ sizes pools list. (sound_is sizes pools list, is_sound_holds sizes pools list);
      none_together = together_same;
      refused_exactly = λ sizes pools list t a.
          (thirty_passes sizes pools list t a, λ both. passes_thirty sizes pools list t a both.0 both.1);
      keeps_sound = λ sizes pools list script t. edit_sound sizes pools list script t;
    }
