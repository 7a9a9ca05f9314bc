-- The records beside a place, as the code looks at them; and where each record follows the one before, those beside the
-- place of an event decide whether it overlaps any, the one that is left out aside. Assumes nothing.
use mathlib.Core.Path.{◌≡◌, refl, sym, ap, ap₂, ◌∙◌}
use mathlib.Core.Logic.{⊎_elim}
use mathlib.Core.Bool.{Bool, true, false, ◌&&◌, ◌||◌}
use mathlib.Core.List.{List, [], ◌∷◌}
use Prim.Native.Nat.{ℕ, zero, suc, ◌+◌, ◌-◌, ◌≤◌, ◌<◌}
use native.Mathlib.Omega.{arith}
use mir.Val.{bool_byte}
use borrow.Author.Tests.{le-leb, lt-leb, le-ltb}
use lib.Dec.{leb, ltb, lt→ltb}
use lib.ListN.{length, get_or, drop, length-append, length-take, length-drop}
use Rattle.eit.specs.Overlap.{end_of, overlap}
use Rattle.eit.specs.declared.Record.{Record}
use Rattle.eit.proofs.OverlapLaws.{overlaps_first, overlaps_beside}
use Rattle.eit.proofs.Test.{true_is, le_or_lt}
use Rattle.script.specs.Machine.{zero_record}
use Rattle.edit_index.specs.Order.{slot_in}
use Rattle.edit_index.specs.Index.{Index}
use Rattle.edit_index.specs.Index.{slot_record, held_records, Holds}
use Rattle.edit_index.specs.Neighbours.{other_at, overlaps_at, overlaps_neighbour}
use Rattle.edit_index.proofs.SlotLaws.{leave, leave_before, leave_behind}
use Rattle.edit_index.proofs.IndexLaws.{held_length, held_record}

-- ---- as the code asks

module _ (r s : Record) where
  pub overlap_not : end_of s ≤ r.start → false ≡ overlap r s
  unfolding overlap
  overlap_not ended = sym (ap (λ (b : Bool). b && ltb s.start (end_of r)) (le-ltb r.start (end_of s) ended))

  pub overlap_if : r.start < end_of s → ltb s.start (end_of r) ≡ overlap r s
  unfolding overlap
  overlap_if begun =
      sym
      (ap (λ (b : Bool). b && ltb s.start (end_of r))
      (true_is (ltb r.start (end_of s)) (lt→ltb r.start (end_of s) begun)))

pub other_is : (own i : ℕ) → i + bool_byte (leb own i) ≡ other_at own i
other_is own i =
    ⊎_elim (λ behind. rw (other_at, le-leb own i behind) (omega arith))
    (λ before. rw (other_at, lt-leb own i before) (omega arith)) (le_or_lt own i)

-- it stands within the records only if i does
pub other_from : (own i : ℕ) → i ≤ other_at own i
other_from own i =
    ⊎_elim (λ behind. rw (other_at, le-leb own i behind) (omega arith))
    (λ before. rw (other_at, lt-leb own i before) (omega arith)) (le_or_lt own i)

pub other_fits : (own i count : ℕ) → i < count → i + bool_byte (leb own i) ≤ count
other_fits own i count within =
    ⊎_elim (λ behind. rw (le-leb own i behind) (omega arith)) (λ before. rw (lt-leb own i before) (omega arith))
    (le_or_lt own i)

module _ (r : Record) (x : Index) (own : ℕ) where
  pub none_at : (i : ℕ) → x.count ≤ other_at own i → false ≡ overlaps_at r x own i
  none_at i beyond =
      sym
      (ap (λ (b : Bool). b && overlap r (slot_record x.slots (slot_in (get_or x.order (other_at own i) 0))))
      (le-ltb (other_at own i) x.count beyond))

  pub some_at : (i : ℕ) → other_at own i < x.count
      → overlap r (slot_record x.slots (slot_in (get_or x.order (other_at own i) 0))) ≡ overlaps_at r x own i
  some_at i within =
      sym
      (ap (λ (b : Bool). b && overlap r (slot_record x.slots (slot_in (get_or x.order (other_at own i) 0))))
      (true_is (ltb (other_at own i) x.count) (lt→ltb (other_at own i) x.count within)))

  -- the one in front alone; the one before the place; the one behind it
  pub next_front : (place : ℕ) → place ≡ 0
      → overlaps_at r x own 0 ≡ overlaps_neighbour r x own place
  next_front zero none = refl
  next_front (suc p) none = absurd (omega arith)

  pub next_before : (place : ℕ) → (place ≡ 0 → ⊥) → overlaps_at r x own (place - 1) ≡ true
      → true ≡ overlaps_neighbour r x own place
  next_before zero some so = absurd (some refl)
  next_before (suc p) some so =
      let e : suc p - 1 ≡ p = omega arith in
      sym (ap (λ (b : Bool). b || overlaps_at r x own (suc p)) (rw e at so))

  pub next_behind : (place : ℕ) → (place ≡ 0 → ⊥) → overlaps_at r x own (place - 1) ≡ false
      → overlaps_at r x own place ≡ overlaps_neighbour r x own place
  next_behind zero some so = absurd (some refl)
  next_behind (suc p) some so =
      let e : suc p - 1 ≡ p = omega arith in
      sym (ap (λ (b : Bool). b || overlaps_at r x own (suc p)) (rw e at so))

-- ---- the records of an index, one of them left out

-- where record i of the others stands
leave_at : (own : ℕ) (rs : List Record) (i : ℕ) (d : Record) → get_or (leave own rs) i d ≡ get_or rs (other_at own i) d
leave_at own rs i d =
    ⊎_elim (λ behind. rw (other_at, le-leb own i behind) (leave_behind own rs i d behind))
    (λ before. rw (other_at, lt-leb own i before) (leave_before own rs i d before)) (le_or_lt own i)

leave_within : (own : ℕ) (rs : List Record) (i : ℕ) → other_at own i < length rs → i < length (leave own rs)
leave_within own rs i within =
    simp (length-append, length-take, length-drop)
    (⊎_elim
    (λ (behind : own ≤ i). let there : suc i < length rs = rw (other_at, le-leb own i behind) at within in omega arith)
    (λ (before : i < own). let there : i < length rs = rw (other_at, lt-leb own i before) at within in omega arith)
    (le_or_lt own i))

leave_beyond : (own : ℕ) (rs : List Record) (i : ℕ) → length rs ≤ other_at own i → length (leave own rs) ≤ i
leave_beyond own rs i beyond =
    simp (length-append, length-take, length-drop)
    (⊎_elim
    (λ (behind : own ≤ i). let there : length rs ≤ suc i = rw (other_at, le-leb own i behind) at beyond in omega arith)
    (λ (before : i < own). let there : length rs ≤ i = rw (other_at, lt-leb own i before) at beyond in omega arith)
    (le_or_lt own i))

-- the first of the records from place i on
first_none : (r : Record) (ss : List Record) (i : ℕ) → length ss ≤ i → overlaps_first r (drop i ss) ≡ false
first_none r [] zero beyond = refl
first_none r [] (suc i) beyond = refl
first_none r (s ∷ ss) zero beyond = absurd (omega arith)
first_none r (s ∷ ss) (suc i) beyond = first_none r ss i (omega arith)

first_at : (r : Record) (ss : List Record) (i : ℕ) (d : Record) → i < length ss
    → overlaps_first r (drop i ss) ≡ overlap r (get_or ss i d)
first_at r [] i d within = absurd (omega arith)
first_at r (s ∷ ss) zero d within = refl
first_at r (s ∷ ss) (suc i) d within = first_at r ss i d (omega arith)

module _ {x : Index} (h : Holds x) (r : Record) (own : ℕ) where
  abbrev left : List Record
  left = leave own (held_records x)

  at_is : (i : ℕ) → overlaps_at r x own i ≡ overlaps_first r (drop i left)
  at_is i =
      ⊎_elim
      (λ (beyond : x.count ≤ other_at own i).
      sym (none_at r x own i beyond)
      ∙ sym (first_none r left i (leave_beyond own (held_records x) i (omega (arith, held_length h)))))
      (λ (within : other_at own i < x.count).
      sym (some_at r x own i within)
      ∙ ap (overlap r)
      (sym (held_record h (other_at own i) within) ∙ sym (leave_at own (held_records x) i zero_record))
      ∙ sym
      (first_at r left i zero_record (leave_within own (held_records x) i (omega (arith, held_length h)))))
      (le_or_lt x.count (other_at own i))

  pub neighbour_is : (place : ℕ)
      → overlaps_neighbour r x own place
      ≡ overlaps_beside r place (leave own (held_records x))
  neighbour_is zero = at_is 0
  neighbour_is (suc p) = ap₂ ◌||◌ (at_is p) (at_is (suc p))
