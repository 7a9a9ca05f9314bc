-- Inserting a record and taking one away keep what soundness asks of the records: by induction over the records.
-- Assumes nothing.
use mathlib.Core.Path.{◌≡◌, refl, sym, ap, ◌∙◌}
use mathlib.Core.Logic.{◌⊎◌, ⊎_elim}
use mathlib.Core.Bool.{not}
use Prim.Native.Nat.{ℕ, suc}
use native.Mathlib.Omega.{arith}
use mathlib.Core.List.{List, [], ◌∷◌}
use lib.Dec.{T, eqb, eqb→eq, ltb, ltb→lt, nltb→le}
use lib.ListN.{length}
use Rattle.eit.specs.Pools.{Pools}
use Rattle.eit.specs.Events.{Event, event_of, events_in, follows, rising}
use Rattle.eit.specs.Among.{is_among, all_differ}
use Rattle.eit.specs.Overlap.{overlap, overlaps_one}
use Rattle.eit.specs.Sound.{in_range, has_chain, all_valid, ids_of}
use Rattle.eit.specs.declared.Record.{Record}
use Rattle.eit.proofs.Test.{tests, and_both, or_other, nor_left, nor_right, ne_sym, test_or, true_is, false_is}
use Rattle.eit.proofs.Events.{AllFollow, follows_later, rising_rest, rising_follow, follow_rising}
use Rattle.eit.proofs.OverlapLaws.{apart_follows}
use Rattle.eit.proofs.Sound.{range_facts}
use Rattle.script.specs.Machine.{insert, find, without}

-- ---- the two cases of each definition

module _ (r s : Record) (rs : List Record) where
  pub insert_here : T (ltb r.start s.start) → insert r (s ∷ rs) ≡ r ∷ s ∷ rs
  insert_here t = rw (insert, true_is (ltb r.start s.start) t)

  pub insert_later : T (not (ltb r.start s.start)) → insert r (s ∷ rs) ≡ s ∷ insert r rs
  insert_later t = rw (insert, false_is (ltb r.start s.start) t)

module _ (id : ℕ) (r : Record) (rs : List Record) where
  pub without_here : T (eqb id r.id) → without id (r ∷ rs) ≡ rs
  without_here t = rw (without, true_is (eqb id r.id) t)

  pub without_later : T (not (eqb id r.id)) → without id (r ∷ rs) ≡ r ∷ without id rs
  without_later t = rw (without, false_is (eqb id r.id) t)

  -- an id that is not the first record's is among the later ones
  pub among_later : T (not (eqb id r.id)) → T (is_among id (ids_of (r ∷ rs))) → T (is_among id (ids_of rs))
  among_later t a = or_other (eqb id r.id) (is_among id (ids_of rs)) t a

  pub find_here : T (eqb id r.id) → find id (r ∷ rs) ≡ r
  find_here t = rw (find, true_is (eqb id r.id) t)

  pub find_later : T (not (eqb id r.id)) → find id (r ∷ rs) ≡ find id rs
  find_later t = rw (find, false_is (eqb id r.id) t)

-- ---- how many records there are

pub insert_length : (r : Record) (rs : List Record) → length (insert r rs) ≡ suc (length rs)
insert_length r [] = refl
insert_length r (s ∷ rs) =
    ⊎_elim (λ t. ap length (insert_here r s rs t))
    (λ t. ap length (insert_later r s rs t) ∙ ap suc (insert_length r rs))
    (test_or (ltb r.start s.start))

pub without_length : (id : ℕ) (rs : List Record) → T (is_among id (ids_of rs)) → suc (length (without id rs)) ≡ length rs
without_length id [] a = absurd a
without_length id (r ∷ rs) a =
    ⊎_elim (λ t. rw (without_here id r rs t))
    (λ t. rw (without_later id r rs t) (ap suc (without_length id rs (among_later id r rs t a))))
    (test_or (eqb id r.id))

-- ---- values in range, parts and chains

module _ (pools : Pools) where
  pub insert_valid : (r : Record) (rs : List Record) → T (in_range r) → T (has_chain pools r) → T (all_valid pools rs)
      → T (all_valid pools (insert r rs))
  insert_valid r [] a b v = search tests
  insert_valid r (s ∷ rs) a b v =
      let rest : T (all_valid pools (insert r rs)) = insert_valid r rs a b (search tests) in
      ⊎_elim (λ t. rw (insert_here r s rs t) (search tests)) (λ t. rw (insert_later r s rs t) (search tests))
      (test_or (ltb r.start s.start))

  pub without_valid : (id : ℕ) (rs : List Record) → T (all_valid pools rs) → T (all_valid pools (without id rs))
  without_valid id [] v = tt
  without_valid id (r ∷ rs) v =
      let rest : T (all_valid pools (without id rs)) = without_valid id rs (search tests) in
      ⊎_elim (λ t. rw (without_here id r rs t) (search tests)) (λ t. rw (without_later id r rs t) (search tests))
      (test_or (eqb id r.id))

  pub find_valid : (id : ℕ) (rs : List Record) → T (is_among id (ids_of rs)) → T (all_valid pools rs)
      → T (in_range (find id rs)) × T (has_chain pools (find id rs))
  find_valid id [] a v = absurd a
  find_valid id (r ∷ rs) a v =
      ⊎_elim (λ t. rw (find_here id r rs t) (search tests, search tests))
      (λ t. rw (find_later id r rs t) (find_valid id rs (among_later id r rs t a) (search tests)))
      (test_or (eqb id r.id))

  -- ---- each may follow the one before

  -- a record has a place among others: each of them may follow it, or it may follow that one
  abbrev pub HasPlace : Record → List Record → Type 0
  HasPlace r [] = Unit {0}
  HasPlace r (s ∷ rs) =
      (T (follows (event_of pools r) (event_of pools s)) ⊎ T (follows (event_of pools s) (event_of pools r)))
      × HasPlace r rs

  -- one that overlaps none of them
  pub apart_place : (r : Record) (rs : List Record) → T (in_range r) → T (all_valid pools rs)
      → T (not (overlaps_one r rs)) → HasPlace r rs
  apart_place r [] range valid clear = tt
  apart_place r (s ∷ rs) range valid clear = (
    apart_follows pools r s (range_facts r range).duration_low (range_facts s (search tests)).duration_low
        (nor_left (overlap r s) (overlaps_one r rs) clear),
    apart_place r rs range (search tests) (nor_right (overlap r s) (overlaps_one r rs) clear),
  )

  insert_follow : (e : Event) (r : Record) (rs : List Record) → T (follows e (event_of pools r))
      → AllFollow e (events_in pools rs)
      → AllFollow e (events_in pools (insert r rs))
  insert_follow e r [] t all = (t, tt)
  insert_follow e r (s ∷ rs) t all =
      ⊎_elim (λ b. rw (insert_here r s rs b) (t, all))
      (λ b. rw (insert_later r s rs b) (all.0, insert_follow e r rs t all.1))
      (test_or (ltb r.start s.start))

  pub insert_rises : (r : Record) (rs : List Record) → HasPlace r rs → T (rising (events_in pools rs))
      → T (rising (events_in pools (insert r rs)))
  insert_rises r [] place t = tt
  insert_rises r (s ∷ rs) place t =
      let first : Event = event_of pools s in
      let new : Event = event_of pools r in
      ⊎_elim
      (λ b.
      let next : T (follows new first) =
      ⊎_elim (λ f. f) (λ f. absurd (omega (arith, ltb→lt r.start s.start b, follows_later first new f)))
      place.0 in
      rw (insert_here r s rs b) (and_both (follows new first) (rising (events_in pools (s ∷ rs))) next t))
      (λ b.
      let next : T (follows first new) =
      ⊎_elim (λ f. absurd (omega (arith, nltb→le r.start s.start b, follows_later new first f))) (λ f. f)
      place.0 in
      rw (insert_later r s rs b)
      (follow_rising first (events_in pools (insert r rs))
      (insert_follow first r rs next (rising_follow first (events_in pools rs) t))
      (insert_rises r rs place.1 (rising_rest first (events_in pools rs) t))))
      (test_or (ltb r.start s.start))

  without_follow : (e : Event) (id : ℕ) (rs : List Record) → AllFollow e (events_in pools rs)
      → AllFollow e (events_in pools (without id rs))
  without_follow e id [] all = tt
  without_follow e id (r ∷ rs) all =
      ⊎_elim (λ t. rw (without_here id r rs t) all.1)
      (λ t. rw (without_later id r rs t) (all.0, without_follow e id rs all.1))
      (test_or (eqb id r.id))

  pub without_rises : (id : ℕ) (rs : List Record) → T (rising (events_in pools rs))
      → T (rising (events_in pools (without id rs)))
  without_rises id [] t = tt
  without_rises id (r ∷ rs) t =
      let first : Event = event_of pools r in
      ⊎_elim (λ b. rw (without_here id r rs b) (rising_rest first (events_in pools rs) t))
      (λ b.
      rw (without_later id r rs b)
      (follow_rising first (events_in pools (without id rs))
      (without_follow first id rs (rising_follow first (events_in pools rs) t))
      (without_rises id rs (rising_rest first (events_in pools rs) t))))
      (test_or (eqb id r.id))

-- ---- ids differ

insert_among : (n : ℕ) (r : Record) (rs : List Record) → T (not (eqb n r.id)) → T (not (is_among n (ids_of rs)))
    → T (not (is_among n (ids_of (insert r rs))))
insert_among n r [] a b = search tests
insert_among n r (s ∷ rs) a b =
    let rest : T (not (is_among n (ids_of (insert r rs)))) = insert_among n r rs a (search tests) in
    ⊎_elim (λ t. rw (insert_here r s rs t) (search tests)) (λ t. rw (insert_later r s rs t) (search tests))
    (test_or (ltb r.start s.start))

pub insert_differ : (r : Record) (rs : List Record) → T (not (is_among r.id (ids_of rs))) → T (all_differ (ids_of rs))
    → T (all_differ (ids_of (insert r rs)))
insert_differ r [] a d = tt
insert_differ r (s ∷ rs) a d =
    let other : T (not (eqb s.id r.id)) = ne_sym r.id s.id (search tests) in
    let others : T (not (is_among s.id (ids_of (insert r rs)))) = insert_among s.id r rs other (search tests) in
    let rest : T (all_differ (ids_of (insert r rs))) = insert_differ r rs (search tests) (search tests) in
    ⊎_elim (λ t. rw (insert_here r s rs t) (search tests)) (λ t. rw (insert_later r s rs t) (search tests))
    (test_or (ltb r.start s.start))

without_among : (n id : ℕ) (rs : List Record) → T (not (is_among n (ids_of rs)))
    → T (not (is_among n (ids_of (without id rs))))
without_among n id [] a = tt
without_among n id (r ∷ rs) a =
    let rest : T (not (is_among n (ids_of (without id rs)))) = without_among n id rs (search tests) in
    ⊎_elim (λ t. rw (without_here id r rs t) (search tests)) (λ t. rw (without_later id r rs t) (search tests))
    (test_or (eqb id r.id))

pub without_differ : (id : ℕ) (rs : List Record) → T (all_differ (ids_of rs)) → T (all_differ (ids_of (without id rs)))
without_differ id [] d = tt
without_differ id (r ∷ rs) d =
    let other : T (not (is_among r.id (ids_of (without id rs)))) = without_among r.id id rs (search tests) in
    let rest : T (all_differ (ids_of (without id rs))) = without_differ id rs (search tests) in
    ⊎_elim (λ t. rw (without_here id r rs t) (search tests)) (λ t. rw (without_later id r rs t) (search tests))
    (test_or (eqb id r.id))

-- where ids differ, an id that is taken away is gone
pub without_gone : (id : ℕ) (rs : List Record) → T (all_differ (ids_of rs)) → T (not (is_among id (ids_of (without id rs))))
without_gone id [] d = tt
without_gone id (r ∷ rs) d =
    let rest : T (not (is_among id (ids_of (without id rs)))) = without_gone id rs (search tests) in
    ⊎_elim (λ t. rw (without_here id r rs t, eqb→eq id r.id t) (search tests))
    (λ t. rw (without_later id r rs t) (search tests))
    (test_or (eqb id r.id))

pub find_id : (id : ℕ) (rs : List Record) → T (is_among id (ids_of rs)) → (find id rs).id ≡ id
find_id id [] a = absurd a
find_id id (r ∷ rs) a =
    ⊎_elim (λ t. rw (find_here id r rs t) (sym (eqb→eq id r.id t)))
    (λ t. rw (find_later id r rs t) (find_id id rs (among_later id r rs t a)))
    (test_or (eqb id r.id))
