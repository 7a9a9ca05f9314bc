-- The search for the place of a start: what 02, W-203, claims of it, by induction over the starts, and its passes over
-- starts that are not later, one at a time or some at once, by what is left of the starts. Assumes nothing.
use mathlib.Core.Path.{◌≡◌, refl, sym, ap, ◌∙◌}
use mathlib.Core.Logic.{⊎_elim}
use Prim.Native.Nat.{ℕ, zero, suc, ◌+◌, ◌*◌, ◌≤◌, ◌<◌, min}
use native.Mathlib.Omega.{arith}
use mathlib.Core.List.{List, [], ◌∷◌, ◌++◌}
use lib.Dec.{ltb, lt→ltb, ltb→lt, not_T, nltb→le}
use lib.ListN.{length, get_or, drop, length-map, drop_of_length-le, get_or-map}
use lib.Seq.{get_or-drop, drop-cons}
use Rattle.eit.specs.Find.{place_of}
use Rattle.eit.specs.Placing.{behind_one, placing, records_lent, placing_in}
use Rattle.eit.specs.PlaceSearch.{NoneLater, PlaceSearch}
use Rattle.eit.specs.Records.{EventList, record_size, front_record, records_in}
use Rattle.eit.specs.Sound.{starts_of}
use Rattle.eit.specs.declared.Place.{Place}
use Rattle.eit.specs.declared.Record.{Record}
use Rattle.eit.proofs.Find.{place_here, place_later}
use Rattle.eit.proofs.Records.{records_length, record_at_holds}
use Rattle.eit.proofs.Test.{test_or, true_is, false_is}

-- the two numbers of an answer
pub place_is : {p q l m : ℕ} → p ≡ q → l ≡ m
    → ◌≡◌ {A = Place} (record { place = p; looked = l }) (record { place = q; looked = m })
place_is a b = λ i. record { place = a i; looked = b i }

-- ---- the two cases

module _ (start s : ℕ) (ss : List ℕ) where
  pub placing_here : start < s → placing start (s ∷ ss) ≡ record { place = 0; looked = 1 }
  placing_here h = rw (placing, true_is (ltb start s) (lt→ltb start s h))

  pub placing_past : s ≤ start → placing start (s ∷ ss) ≡ behind_one (placing start ss)
  placing_past h =
      rw (placing, false_is (ltb start s) (not_T (ltb start s) (λ t. omega (arith, ltb→lt start s t))))

-- ---- the claims

ends : (start : ℕ) (before : List ℕ) (s : ℕ) (behind : List ℕ) → NoneLater start before → start < s
    → placing start (before ++ s ∷ behind) ≡ record { place = length before; looked = length before + 1 }
ends start [] s behind none later = placing_here start s behind later
ends start (b ∷ before) s behind none later =
    placing_past start b (before ++ s ∷ behind) none.0
    ∙ ap behind_one (ends start before s behind none.1 later)
    ∙ place_is refl (omega arith)

all : (start : ℕ) (ss : List ℕ) → NoneLater start ss
    → placing start ss ≡ record { place = length ss; looked = length ss }
all start [] none = refl
all start (s ∷ ss) none = placing_past start s ss none.0 ∙ ap behind_one (all start ss none.1)

looked_least : (start : ℕ) (ss : List ℕ) → (placing start ss).looked ≡ min ((placing start ss).place + 1) (length ss)
looked_least start [] = omega arith
looked_least start (s ∷ ss) =
    ⊎_elim (λ t. rw (placing_here start s ss (ltb→lt start s t)) (omega arith))
    (λ t. rw (placing_past start s ss (nltb→le start s t)) (omega (arith, looked_least start ss)))
    (test_or (ltb start s))

-- two lists that are the same up to the later start n
free : (start n : ℕ) (ss ts : List ℕ) → n < length ss → n < length ts
    → ((i : ℕ) → i ≤ n → get_or ss i 0 ≡ get_or ts i 0) → start < get_or ss n 0
    → placing start ss ≡ placing start ts
free start n [] ts some other same later = absurd (omega arith)
free start n (s ∷ ss) [] some other same later = absurd (omega arith)
free start zero (s ∷ ss) (t ∷ ts) some other same later =
    placing_here start s ss later ∙ sym (placing_here start t ts (omega (arith, same 0 (omega arith))))
free start (suc n) (s ∷ ss) (t ∷ ts) some other same later =
    let first : s ≡ t = same 0 (omega arith) in
    ⊎_elim
    (λ h. placing_here start s ss (ltb→lt start s h)
    ∙ sym (placing_here start t ts (omega (arith, ltb→lt start s h, first))))
    (λ h. placing_past start s ss (nltb→le start s h)
    ∙ ap behind_one (free start n ss ts (omega arith) (omega arith) (λ i le. same (suc i) (omega arith)) later)
    ∙ sym (placing_past start t ts (omega (arith, nltb→le start s h, first))))
    (test_or (ltb start s))

-- record i's start is number i × 6 + 1
pub start_is : (m : ℕ) (d : List ℕ) (i : ℕ) → i < m
    → get_or (starts_of (records_in m d)) i 0 ≡ get_or d (i * record_size + 1) 0
start_is m d i within =
    get_or-map (λ (r : Record). r.start) (records_in m d) i (front_record [])
    ∙ ap (λ (r : Record). r.start) (record_at_holds m d i (front_record []) within)
    ∙ get_or-drop (i * record_size) d 1 0

pub starts_are : (m : ℕ) (d : List ℕ) → length (starts_of (records_in m d)) ≡ m
starts_are m d = length-map (records_in m d) (λ (r : Record). r.start) ∙ records_length m d

list_free : (start n : ℕ) (list other : EventList) → n < records_lent list → n < records_lent other
    → ((i : ℕ) → i < (n + 1) * record_size → get_or list.buffer i 0 ≡ get_or other.buffer i 0)
    → start < get_or list.buffer (n * record_size + 1) 0
    → placing_in start list ≡ placing_in start other
unfolding placing_in
list_free start n list other some too same later =
    free start n (starts_of (records_in (records_lent list) list.buffer))
    (starts_of (records_in (records_lent other) other.buffer))
    (omega (arith, starts_are (records_lent list) list.buffer))
    (omega (arith, starts_are (records_lent other) other.buffer))
    (λ i le. start_is (records_lent list) list.buffer i (omega arith)
    ∙ same (i * record_size + 1) (omega arith)
    ∙ sym (start_is (records_lent other) other.buffer i (omega arith)))
    (omega (arith, start_is (records_lent list) list.buffer n some))

place_same : (start : ℕ) (rs : List Record) → (placing start (starts_of rs)).place ≡ place_of start rs
place_same start [] = refl
place_same start (r ∷ rs) =
    ⊎_elim
    (λ t. rw (placing_here start r.start (starts_of rs) (ltb→lt start r.start t), place_here start r rs t))
    (λ t. rw (placing_past start r.start (starts_of rs) (nltb→le start r.start t), place_later start r rs t)
    (ap suc (place_same start rs)))
    (test_or (ltb start r.start))

pub place_search : PlaceSearch
place_search =
    record {
      ends_at_later = ends;
      none_later = all;
      looked_at = looked_least;
      behind_it_free = free;
      list_behind_it_free = list_free;
      same_place = place_same;
    }

-- ---- passes

-- n starts more in front, which are looked at and are not later
abbrev pub behind_some : ℕ → Place → Place
behind_some n p = record { place = n + p.place; looked = n + p.looked }

-- the search once the starts before i are passed, in a list
abbrev pub placing_from : ℕ → ℕ → List ℕ → Place
placing_from start i ss = behind_some i (placing start (drop i ss))

pub place_length : (start : ℕ) (ss : List ℕ) → (placing start ss).place ≤ length ss
place_length start [] = omega arith
place_length start (s ∷ ss) =
    ⊎_elim (λ t. rw (placing_here start s ss (ltb→lt start s t)) (omega arith))
    (λ t. rw (placing_past start s ss (nltb→le start s t)) (omega (arith, place_length start ss)))
    (test_or (ltb start s))

pub from_start : (start : ℕ) (ss : List ℕ) → placing start ss ≡ placing_from start 0 ss
from_start start ss = place_is (omega arith) (omega arith)

module _ (start i : ℕ) (ss : List ℕ) where
  -- the one at i is later
  pub from_later : i < length ss → start < get_or ss i 0
      → placing_from start i ss ≡ record { place = i; looked = i + 1 }
  from_later within later =
      rw (drop-cons ss i 0 within, placing_here start (get_or ss i 0) (drop (suc i) ss) later)
      (place_is (omega arith) refl)

  -- it is not
  pub from_past : i < length ss → get_or ss i 0 ≤ start → placing_from start i ss ≡ placing_from start (i + 1) ss
  from_past within past =
      let next : suc i ≡ i + 1 = omega arith in
      rw (drop-cons ss i 0 within, placing_past start (get_or ss i 0) (drop (suc i) ss) past, next)
      (place_is (omega arith) (omega arith))

  -- and none is left
  pub from_end : length ss ≤ i → placing_from start i ss ≡ record { place = i; looked = i }
  from_end short =
      let none : drop i ss ≡ [] = drop_of_length-le ss {i = i} short in
      rw none (place_is (omega arith) (omega arith))

-- ---- some starts at once

module _ (start : ℕ) where
  -- one of them is later: those behind them play no part
  pub placing_joined : (xs ys : List ℕ) → (placing start xs).place < length xs
      → placing start (xs ++ ys) ≡ placing start xs
  placing_joined [] ys some = absurd (omega arith)
  placing_joined (x ∷ xs) ys some =
      ⊎_elim
      (λ t. placing_here start x (xs ++ ys) (ltb→lt start x t) ∙ sym (placing_here start x xs (ltb→lt start x t)))
      (λ t.
      let past : x ≤ start = nltb→le start x t in
      let left : (placing start xs).place < length xs =
      omega (arith, ap (λ (p : Place). p.place) (placing_past start x xs past)) in
      placing_past start x (xs ++ ys) past
      ∙ ap behind_one (placing_joined xs ys left)
      ∙ sym (placing_past start x xs past))
      (test_or (ltb start x))

  -- none of them is: they are passed
  pub placing_behind : (xs ys : List ℕ) → (placing start xs).place ≡ length xs
      → placing start (xs ++ ys) ≡ behind_some (length xs) (placing start ys)
  placing_behind [] ys none = place_is (omega arith) (omega arith)
  placing_behind (x ∷ xs) ys none =
      ⊎_elim
      (λ t. absurd (omega (arith, ap (λ (p : Place). p.place) (placing_here start x xs (ltb→lt start x t)))))
      (λ t.
      let past : x ≤ start = nltb→le start x t in
      let left : (placing start xs).place ≡ length xs =
      omega (arith, ap (λ (p : Place). p.place) (placing_past start x xs past)) in
      placing_past start x (xs ++ ys) past
      ∙ ap behind_one (placing_behind xs ys left)
      ∙ place_is (omega arith) (omega arith))
      (test_or (ltb start x))
