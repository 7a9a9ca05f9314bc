-- A roll case by case, and that it keeps a list sound: records that stay keep their values but for the start, and
-- starts that all become earlier by the same stand to each other as before. By induction over the records.
-- Assumes nothing.
use mathlib.Core.Path.{◌≡◌, sym, subst}
use mathlib.Core.Bool.{not}
use mathlib.Core.Logic.{⊎_elim}
use mathlib.Core.List.{List, [], ◌∷◌}
use Prim.Native.Nat.{ℕ, ◌+◌, ◌≤◌, ◌<◌}
use native.Mathlib.Omega.{arith}
use borrow.Author.Tests.{lt-ltb, le-ltb}
use lib.Dec.{T}
use lib.ListN.{length}
use Rattle.eit.specs.declared.Sizes.{Sizes}
use Rattle.eit.specs.Limits.{base_day_max}
use Rattle.eit.specs.Time.{seconds_of_day}
use Rattle.eit.specs.Pools.{Pools}
use Rattle.eit.specs.Among.{is_among, all_differ}
use Rattle.eit.specs.Records.{EventList, records_of}
use Rattle.eit.specs.Events.{event_of, events_in, rising}
use Rattle.eit.specs.Sound.{in_range, has_chain, all_valid, ids_of, sound}
use Rattle.eit.specs.declared.Record.{Record}
use Rattle.eit.proofs.Test.{tests, true_is, false_is, and_parts, and_both, le_or_lt}
use Rattle.eit.proofs.Records.{count_records}
use Rattle.eit.proofs.Events.{AllFollow, follows_later, follows_end, later_follows, rising_rest, rising_follow}
use Rattle.eit.proofs.Events.{follow_rising}
use Rattle.eit.proofs.Sound.{range_facts, facts_range, RecordFacts, sound_list, list_sound}
use Rattle.window.specs.Roll.{earlier_by, counted_from, refilled, Rolled, refusal, success, roll}
use Rattle.window.proofs.Records.{counted_cases, counted_length, refilled_records, refilled_length}

-- ---- case by case

module _ (sizes : Sizes) (pools : Pools) (list : EventList) (base : ℕ) where
  pub roll_last : base_day_max ≤ base → roll sizes pools list base ≡ refusal 31 list base
  unfolding roll
  roll_last past = rw (roll, le-ltb base base_day_max past)

  module _ (day : base < base_day_max) where
    pub roll_unsound : T (not (sound sizes pools list)) → roll sizes pools list base ≡ refusal 12 list base
    unfolding roll
    roll_unsound unsound = rw (roll, lt-ltb base base_day_max day, false_is (sound sizes pools list) unsound)

    pub roll_sound : T (sound sizes pools list)
        → roll sizes pools list base ≡ success list (counted_from seconds_of_day (records_of list)) (base + 1)
    unfolding roll
    roll_sound is = rw (roll, lt-ltb base base_day_max day, true_is (sound sizes pools list) is)

-- ---- sound

module _ (pools : Pools) (seconds : ℕ) where
  range_earlier : (r : Record) → T (in_range r) → T (in_range (earlier_by seconds r))
  range_earlier r t =
      let f = range_facts r t in
      facts_range (earlier_by seconds r) (record {
        id = f.id;
        start = omega (arith, f.start);
        duration_low = f.duration_low;
        duration_high = f.duration_high;
        marks = f.marks;
      })

  valid_counted : (rs : List Record) → T (all_valid pools rs) → T (all_valid pools (counted_from seconds rs))
  valid_counted [] valid = tt
  valid_counted (r ∷ rs) valid =
      let rest : T (all_valid pools (counted_from seconds rs)) = valid_counted rs (search tests) in
      let range : T (in_range (earlier_by seconds r)) = range_earlier r (search tests) in
      let chain : T (has_chain pools (earlier_by seconds r)) = search tests in
      counted_cases seconds r rs (λ (qs : List Record). T (all_valid pools qs)) (λ late. search tests) (λ early. rest)

  -- an event that follows another still follows it when both start that much earlier
  follow_counted : (r : Record) (rs : List Record) → seconds ≤ r.start
      → AllFollow (event_of pools r) (events_in pools rs)
      → AllFollow (event_of pools (earlier_by seconds r)) (events_in pools (counted_from seconds rs))
  follow_counted r [] late all = tt
  follow_counted r (s ∷ rs) late all =
      let e = event_of pools r in
      let f = event_of pools s in
      let rest = follow_counted r rs late all.1 in
      counted_cases seconds s rs
      (λ (qs : List Record). AllFollow (event_of pools (earlier_by seconds r)) (events_in pools qs))
      (λ also. (
        later_follows (event_of pools (earlier_by seconds r)) (event_of pools (earlier_by seconds s))
            (omega (arith, follows_later e f all.0)) (omega (arith, follows_end e f all.0)),
        rest,
      ))
      (λ early. rest)

  rising_counted : (rs : List Record) → T (rising (events_in pools rs))
      → T (rising (events_in pools (counted_from seconds rs)))
  rising_counted [] rises = tt
  rising_counted (r ∷ rs) rises =
      let es = events_in pools rs in
      let rest = rising_counted rs (rising_rest (event_of pools r) es rises) in
      counted_cases seconds r rs (λ (qs : List Record). T (rising (events_in pools qs)))
      (λ late. follow_rising (event_of pools (earlier_by seconds r)) (events_in pools (counted_from seconds rs))
      (follow_counted r rs late (rising_follow (event_of pools r) es rises)) rest)
      (λ early. rest)

  -- an id that is not among some records' ids is not among those of the ones that stay
  apart_counted : (id : ℕ) (rs : List Record) → T (not (is_among id (ids_of rs)))
      → T (not (is_among id (ids_of (counted_from seconds rs))))
  apart_counted id [] apart = tt
  apart_counted id (r ∷ rs) apart =
      let rest : T (not (is_among id (ids_of (counted_from seconds rs)))) = apart_counted id rs (search tests) in
      counted_cases seconds r rs (λ (qs : List Record). T (not (is_among id (ids_of qs)))) (λ late. search tests)
      (λ early. rest)

  differ_counted : (rs : List Record) → T (all_differ (ids_of rs)) → T (all_differ (ids_of (counted_from seconds rs)))
  differ_counted [] differ = tt
  differ_counted (r ∷ rs) differ =
      let (first, others) = and_parts (not (is_among r.id (ids_of rs))) (all_differ (ids_of rs)) differ in
      let rest : T (all_differ (ids_of (counted_from seconds rs))) = differ_counted rs others in
      let apart : T (not (is_among r.id (ids_of (counted_from seconds rs)))) = apart_counted r.id rs first in
      counted_cases seconds r rs (λ (qs : List Record). T (all_differ (ids_of qs)))
      (λ late. and_both (not (is_among r.id (ids_of (counted_from seconds rs))))
      (all_differ (ids_of (counted_from seconds rs))) apart rest)
      (λ early. rest)

-- a sound list, refilled with the records that stay, is sound
pub refilled_sound : (sizes : Sizes) (pools : Pools) (list : EventList) (seconds : ℕ) → T (sound sizes pools list)
    → T (sound sizes pools (refilled list (counted_from seconds (records_of list))))
refilled_sound sizes pools list seconds is =
    let f = sound_list sizes pools list is in
    let stay : List Record = counted_from seconds (records_of list) in
    let few : length stay ≤ list.count =
    omega (arith, counted_length seconds (records_of list), count_records list) in
    list_sound sizes pools (refilled list stay) (record {
      few = omega (arith, f.few);
      held = omega (arith, f.held, refilled_length list stay few f.held);
      records =
          subst (RecordFacts pools) (sym (refilled_records list stay)) (record {
            valid = valid_counted pools seconds (records_of list) f.records.valid;
            rises = rising_counted pools seconds (records_of list) f.records.rises;
            differ = differ_counted pools seconds (records_of list) f.records.differ;
          });
    })

-- a roll leaves a sound list sound, refused or not
pub roll_keeps : (sizes : Sizes) (pools : Pools) (list : EventList) (base : ℕ) → T (sound sizes pools list)
    → T (sound sizes pools (roll sizes pools list base).list)
roll_keeps sizes pools list base is =
    let Sound : Rolled → Type 0 = λ (r : Rolled). T (sound sizes pools r.list) in
    ⊎_elim (λ past. subst Sound (sym (roll_last sizes pools list base past)) is)
    (λ day. subst Sound (sym (roll_sound sizes pools list base day is))
    (refilled_sound sizes pools list seconds_of_day is))
    (le_or_lt base_day_max base)
