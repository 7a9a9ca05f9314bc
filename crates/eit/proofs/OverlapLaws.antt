-- Events overlap exactly if both are on in one second; those that follow one another do not, and of two that do not one
-- follows the other. Where each event follows the one before, the two on both sides of a start's place decide whether
-- an event overlaps one of them: by induction over the records. Assumes nothing.
use mathlib.Core.Path.{◌≡◌, refl, ap, ◌∙◌}
use mathlib.Core.Logic.{◌↔◌, ◌⊎◌, inl, inr, ⊎_elim}
use mathlib.Core.Bool.{Bool, false, not, ◌||◌}
use Prim.Native.Nat.{ℕ, zero, suc, ◌≤◌, ◌<◌, max}
use native.Mathlib.Omega.{arith}
use mathlib.Core.List.{List, [], ◌∷◌}
use lib.Dec.{T, ltb, ltb→lt, lt→ltb, not_T, T_not}
use lib.ListN.{length, get_or, drop}
use Rattle.eit.specs.Pools.{Pools}
use Rattle.eit.specs.Events.{event_of, events_in, follows, rising}
use Rattle.eit.specs.Find.{place_of}
use Rattle.eit.specs.Overlap.{end_of, OnTogether, overlap, overlaps_one}
use Rattle.eit.specs.declared.Record.{Record}
use Rattle.eit.proofs.Test.{and_left, and_right, and_both, or_left, or_right, or_cases, both_ways, test_or}
use Rattle.eit.proofs.Test.{false_is, le_or_lt}
use Rattle.eit.proofs.Events.{AllFollow, follows_later, follows_end, later_follows, rising_rest, rising_follow}
use Rattle.eit.proofs.Find.{place_here, place_later}

-- ---- two events

module _ (r s : Record) where
  pub overlap_starts : T (overlap r s) → (r.start < end_of s) × (s.start < end_of r)
  unfolding overlap
  overlap_starts t = (
    ltb→lt r.start (end_of s) (and_left (ltb r.start (end_of s)) (ltb s.start (end_of r)) t),
    ltb→lt s.start (end_of r) (and_right (ltb r.start (end_of s)) (ltb s.start (end_of r)) t),
  )

  pub starts_overlap : r.start < end_of s → s.start < end_of r → T (overlap r s)
  unfolding overlap
  starts_overlap a b =
      and_both (ltb r.start (end_of s)) (ltb s.start (end_of r)) (lt→ltb r.start (end_of s) a)
      (lt→ltb s.start (end_of r) b)

  -- both are on in one second
  pub overlap_second : 1 ≤ r.duration → 1 ≤ s.duration → T (overlap r s) ↔ OnTogether r s
  overlap_second lasts lasts-too = (
    λ t. let both = overlap_starts t in
        (max r.start s.start, (omega arith, omega arith), (omega arith, omega arith)),
    λ on. let (second, one, other) = on in starts_overlap (omega arith) (omega arith),
  )

module _ (pools : Pools) (r s : Record) where
  pub follows_apart : T (follows (event_of pools r) (event_of pools s)) → T (not (overlap r s))
  follows_apart f =
      not_T (overlap r s)
      (λ t. let both = overlap_starts r s t in omega (arith, follows_end (event_of pools r) (event_of pools s) f))

  pub follows_apart_back : T (follows (event_of pools r) (event_of pools s)) → T (not (overlap s r))
  follows_apart_back f =
      not_T (overlap s r)
      (λ t. let both = overlap_starts s r t in omega (arith, follows_end (event_of pools r) (event_of pools s) f))

  pub apart_follows : 1 ≤ r.duration → 1 ≤ s.duration → T (not (overlap r s))
      → T (follows (event_of pools r) (event_of pools s)) ⊎ T (follows (event_of pools s) (event_of pools r))
  apart_follows lasts lasts-too apart =
      ⊎_elim (λ (h : end_of r ≤ s.start). inl (later_follows (event_of pools r) (event_of pools s) (omega arith) h))
      (λ (l : s.start < end_of r).
      ⊎_elim (λ (h : end_of s ≤ r.start). inr (later_follows (event_of pools s) (event_of pools r) (omega arith) h))
      (λ (m : r.start < end_of s). absurd (T_not (overlap r s) apart (starts_overlap r s m l)))
      (le_or_lt (end_of s) r.start))
      (le_or_lt (end_of r) s.start)

-- ---- one of some events

pub overlaps_at_holds : (r : Record) (ss : List Record) (i : ℕ) (d : Record) → i < length ss → T (overlap r (get_or ss i d))
    → T (overlaps_one r ss)
overlaps_at_holds r [] i d h t = absurd (omega arith)
overlaps_at_holds r (s ∷ ss) zero d h t = or_left (overlap r s) (overlaps_one r ss) t
overlaps_at_holds r (s ∷ ss) (suc i) d h t =
    or_right (overlap r s) (overlaps_one r ss) (overlaps_at_holds r ss i d (omega arith) t)

pub overlaps_found : (r : Record) (ss : List Record) (d : Record) → T (overlaps_one r ss)
    → (i : ℕ) × (i < length ss) × T (overlap r (get_or ss i d))
overlaps_found r [] d t = absurd t
overlaps_found r (s ∷ ss) d t =
    ⊎_elim (λ here. (0, omega arith, here))
    (λ later. let (i, within, is) = overlaps_found r ss d later in (suc i, omega arith, is))
    (or_cases (overlap r s) (overlaps_one r ss) t)

-- ---- where each follows the one before

-- the first of some, and those on both sides of a place
abbrev pub overlaps_first : Record → List Record → Bool
overlaps_first r [] = false
overlaps_first r (s ∷ ss) = overlap r s

abbrev pub overlaps_beside : Record → ℕ → List Record → Bool
overlaps_beside r zero ss = overlaps_first r ss
overlaps_beside r (suc p) ss = overlaps_first r (drop p ss) || overlaps_first r (drop (suc p) ss)

module _ (pools : Pools) (r : Record) where
  -- an event that starts before s and overlaps one behind s overlaps s
  overlaps_nearest : (s : Record) (ss : List Record) → r.start < s.start
      → AllFollow (event_of pools s) (events_in pools ss) → T (overlaps_one r ss) → T (overlap r s)
  overlaps_nearest s [] before all t = absurd t
  overlaps_nearest s (q ∷ ss) before all t =
      let behind = follows_later (event_of pools s) (event_of pools q) all.0 in
      ⊎_elim
      (λ here. let both = overlap_starts r q here in starts_overlap r s (omega arith) (omega arith))
      (λ later. overlaps_nearest s ss before all.1 later) (or_cases (overlap r q) (overlaps_one r ss) t)

  -- one that does not start before the next event does not overlap s
  passed_apart : (s : Record) (ss : List Record) (p : ℕ) → AllFollow (event_of pools s) (events_in pools ss)
      → place_of r.start ss ≡ suc p → overlap r s ≡ false
  passed_apart s [] p all place = absurd (omega arith)
  passed_apart s (q ∷ ss) p all place =
      false_is (overlap r s)
      (not_T (overlap r s)
      (λ t.
      let both = overlap_starts r s t in
      let ended = follows_end (event_of pools s) (event_of pools q) all.0 in
      let later = lt→ltb r.start q.start (omega arith) in
      omega (arith, place_here r.start q ss later)))

  pub overlap_by_place : (ss : List Record) → T (rising (events_in pools ss))
      → overlaps_one r ss ≡ overlaps_beside r (place_of r.start ss) ss
  overlap_by_place [] t = refl
  overlap_by_place (s ∷ ss) t =
      let all = rising_follow (event_of pools s) (events_in pools ss) t in
      ⊎_elim
      (λ before.
      rw (place_here r.start s ss before)
      (both_ways (overlap r s || overlaps_one r ss) (overlap r s)
      (λ u.
      ⊎_elim (λ here. here) (overlaps_nearest s ss (ltb→lt r.start s.start before) all)
      (or_cases (overlap r s) (overlaps_one r ss) u))
      (or_left (overlap r s) (overlaps_one r ss))))
      (λ behind.
      rw (place_later r.start s ss behind)
      (beside (place_of r.start ss) refl all
      (overlap_by_place ss (rising_rest (event_of pools s) (events_in pools ss) t))))
      (test_or (ltb r.start s.start))
    where
      beside : (p : ℕ) → place_of r.start ss ≡ p → AllFollow (event_of pools s) (events_in pools ss)
          → overlaps_one r ss ≡ overlaps_beside r p ss
          → (overlap r s || overlaps_one r ss) ≡ overlaps_beside r (suc p) (s ∷ ss)
      beside zero place all rest = ap (λ (b : Bool). overlap r s || b) rest
      beside (suc p) place all rest = ap (λ (b : Bool). b || overlaps_one r ss) (passed_apart s ss p all place) ∙ rest
