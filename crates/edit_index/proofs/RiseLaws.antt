-- Places by starts that rise strictly: the place of a start, and the place of the record of an id. By the records
-- before the place and the one behind it. Assumes nothing.
use mathlib.Core.Path.{◌≡◌, sym, ap, ◌∙◌}
use mathlib.Core.Logic.{⊎_elim}
use mathlib.Core.List.{List, [], ◌∷◌}
use Prim.Native.Nat.{ℕ, zero, suc, ◌-◌, ◌≤◌, ◌<◌}
use native.Mathlib.Omega.{arith}
use lib.Dec.{T, ltb, lt→ltb, ltb→lt, nltb→le, not_T}
use lib.ListN.{length, get_or, length-map, get_or-map}
use Rattle.eit.specs.Pools.{Pools}
use Rattle.eit.specs.Among.{is_among}
use Rattle.eit.specs.Events.{event_of, events_in, rising}
use Rattle.eit.specs.Find.{position_of, place_of}
use Rattle.eit.specs.Sound.{ids_of, starts_of}
use Rattle.eit.specs.declared.Record.{Record}
use Rattle.eit.proofs.Events.{AllAfter, rising_rest, rising_after}
use Rattle.eit.proofs.Find.{place_here, place_later, place_length, position_length}
use Rattle.eit.proofs.Test.{le_or_lt, test_or}
use Rattle.script.specs.Machine.{find, without, zero_record}
use Rattle.script.proofs.Placing.{without_length}
use Rattle.script.proofs.Places.{find_at, without_position}
use Rattle.edit_index.specs.Rises.{Rises}
use Rattle.edit_index.proofs.SlotLaws.{map_leave, leave, leave_before, leave_behind}

pub starts_length : (rs : List Record) → length (starts_of rs) ≡ length rs
starts_length rs = length-map rs (λ (r : Record). r.start)

-- ---- the starts of a sound list rise

module _ (pools : Pools) where
  all_after : (s : ℕ) (rs : List Record) → AllAfter s (events_in pools rs) → (j : ℕ) → j < length (starts_of rs)
      → s < get_or (starts_of rs) j 0
  all_after s [] a j h = absurd (omega arith)
  all_after s (r ∷ rs) a zero h = a.0
  all_after s (r ∷ rs) a (suc j) h = all_after s rs a.1 j (omega arith)

  pub rising_starts : (rs : List Record) → T (rising (events_in pools rs)) → Rises (starts_of rs)
  rising_starts [] t i j l h = absurd (omega arith)
  rising_starts (r ∷ rs) t i zero l h = absurd (omega arith)
  rising_starts (r ∷ rs) t zero (suc j) l h =
      all_after r.start rs (rising_after (event_of pools r) (events_in pools rs) t) j (omega arith)
  rising_starts (r ∷ rs) t (suc i) (suc j) l h =
      rising_starts rs (rising_rest (event_of pools r) (events_in pools rs) t) i j (omega arith) (omega arith)

-- ---- the place of a start

-- records before k start no later, and the one at k starts later
pub place_is : (start : ℕ) (rs : List Record) (k : ℕ) → k ≤ length rs
    → ((i : ℕ) → i < k → get_or (starts_of rs) i 0 ≤ start) → (k < length rs → start < get_or (starts_of rs) k 0)
    → place_of start rs ≡ k
place_is start [] k few before behind = omega arith
place_is start (r ∷ rs) zero few before behind =
    let later : start < r.start = behind (omega arith) in
    place_here start r rs (lt→ltb start r.start later)
place_is start (r ∷ rs) (suc k) few before behind =
    let first : r.start ≤ start = before 0 (omega arith) in
    place_later start r rs (not_T (ltb start r.start) (λ t. omega (arith, ltb→lt start r.start t)))
    ∙ ap suc (place_is start rs k (omega arith) (λ i h. before (suc i) (omega arith)) (λ h. behind (omega arith)))

-- and so it is of the place
pub place_before : (start : ℕ) (rs : List Record) (i : ℕ) → i < place_of start rs → get_or (starts_of rs) i 0 ≤ start
place_before start [] i h = omega arith
place_before start (r ∷ rs) zero h =
    ⊎_elim (λ t. absurd (omega (arith, place_here start r rs t))) (λ t. nltb→le start r.start t)
    (test_or (ltb start r.start))
place_before start (r ∷ rs) (suc i) h =
    ⊎_elim (λ t. absurd (omega (arith, place_here start r rs t)))
    (λ t. place_before start rs i (omega (arith, place_later start r rs t))) (test_or (ltb start r.start))

pub place_behind : (start : ℕ) (rs : List Record) → place_of start rs < length rs
    → start < get_or (starts_of rs) (place_of start rs) 0
place_behind start [] h = absurd (omega arith)
place_behind start (r ∷ rs) h =
    ⊎_elim (λ t. rw (place_here start r rs t) (ltb→lt start r.start t))
    (λ t. rw (place_later start r rs t) (place_behind start rs (omega (arith, place_later start r rs t))))
    (test_or (ltb start r.start))

module _ (rs : List Record) (rises : Rises (starts_of rs)) where
  -- no later than a record behind it
  pub rises_to : (i j : ℕ) → i ≤ j → j < length rs → get_or (starts_of rs) i 0 ≤ get_or (starts_of rs) j 0
  rises_to i j h within =
      ⊎_elim
      (λ le. let e : i ≡ j = omega arith in ap_le e)
      (λ lt. omega (arith, rises i j lt (omega (arith, starts_length rs))))
      (le_or_lt j i)
    where
      ap_le : i ≡ j → get_or (starts_of rs) i 0 ≤ get_or (starts_of rs) j 0
      ap_le e = let q : get_or (starts_of rs) i 0 ≡ get_or (starts_of rs) j 0 =
          ap (λ (n : ℕ). get_or (starts_of rs) n 0) e in omega arith

  -- a record's own start has its place behind it
  pub place_own : (i start : ℕ) → i < length rs → get_or (starts_of rs) i 0 ≡ start → place_of start rs ≡ suc i
  place_own i start within is =
      place_is start rs (suc i) (omega arith) (λ j h. omega (arith, rises_to j i (omega arith) within))
      (λ h. omega (arith, rises i (suc i) (omega arith) (omega (arith, starts_length rs))))

-- ---- the record of an id

module _ (id : ℕ) (rs : List Record) (a : T (is_among id (ids_of rs))) where
  found_start : get_or (starts_of rs) (position_of id rs) 0 ≡ (find id rs).start
  found_start =
      get_or-map (λ (r : Record). r.start) rs (position_of id rs) zero_record
      ∙ ap (λ (r : Record). r.start) (sym (find_at id rs zero_record a))

  others_are : starts_of (without id rs) ≡ leave (position_of id rs) (starts_of rs)
  others_are = ap starts_of (without_position id rs a) ∙ map_leave (λ (r : Record). r.start) (position_of id rs) rs

  module _ (rises : Rises (starts_of rs)) where
    -- its start has its place behind it
    pub own_place : place_of (find id rs).start rs ≡ suc (position_of id rs)
    own_place = place_own rs rises (position_of id rs) (find id rs).start (position_length id rs a) found_start

    -- the place of a start, once the record is taken out: one less if the record stood before it
    module _ (start : ℕ) where
      left_length : suc (length (without id rs)) ≡ length rs
      left_length = without_length id rs a

      left_before : (k : ℕ) → k < position_of id rs → get_or (starts_of (without id rs)) k 0 ≡ get_or (starts_of rs) k 0
      left_before k h =
          ap (λ (xs : List ℕ). get_or xs k 0) others_are ∙ leave_before (position_of id rs) (starts_of rs) k 0 h

      left_behind : (k : ℕ) → position_of id rs ≤ k → get_or (starts_of (without id rs)) k 0 ≡ get_or (starts_of rs) (suc k) 0
      left_behind k h =
          ap (λ (xs : List ℕ). get_or xs k 0) others_are ∙ leave_behind (position_of id rs) (starts_of rs) k 0 h

      later : (k : ℕ) → place_of start rs ≤ k → k < length rs → start < get_or (starts_of rs) k 0
      later k h within =
          omega (arith, place_behind start rs (omega arith), rises_to rs rises (place_of start rs) k h within)

      pub place_left_before : position_of id rs < place_of start rs → place_of start (without id rs) ≡ place_of start rs - 1
      place_left_before stood =
          let size : suc (length (without id rs)) ≡ length rs = left_length in
          let few : place_of start rs ≤ length rs = place_length start rs in
          place_is start (without id rs) (place_of start rs - 1) (omega arith)
          (λ k h.
          ⊎_elim (λ behind. omega (arith, left_behind k behind, place_before start rs (suc k) (omega arith)))
          (λ before. omega (arith, left_before k before, place_before start rs k (omega arith)))
          (le_or_lt (position_of id rs) k))
          (λ h.
          let next : suc (place_of start rs - 1) ≡ place_of start rs = omega arith in
          let moved = ap (λ (n : ℕ). get_or (starts_of rs) n 0) next in
          omega (
            arith,
            left_behind (place_of start rs - 1) (omega arith),
            later (place_of start rs) (omega arith) (omega arith),
          ))

      pub place_left_behind : place_of start rs ≤ position_of id rs → place_of start (without id rs) ≡ place_of start rs
      place_left_behind stood =
          let size : suc (length (without id rs)) ≡ length rs = left_length in
          let within = position_length id rs a in
          place_is start (without id rs) (place_of start rs) (omega arith)
          (λ k h. omega (arith, left_before k (omega arith), place_before start rs k h))
          (λ h.
          ⊎_elim
          (λ behind.
          omega (
            arith,
            left_behind (place_of start rs) behind,
            later (suc (place_of start rs)) (omega arith) (omega arith),
          ))
          (λ before. omega
          (arith, left_before (place_of start rs) before, later (place_of start rs) (omega arith) (omega arith)))
          (le_or_lt (position_of id rs) (place_of start rs)))
