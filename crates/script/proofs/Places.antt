-- An insertion and a record that is taken away, by their places: what stands before the place stays, what stands behind
-- it moves by one. By induction over the records, and then by the laws of `take` and `drop`. Assumes nothing.
use mathlib.Core.Path.{◌≡◌, refl, ap, ◌∙◌}
use mathlib.Core.Logic.{⊎_elim}
use Prim.Native.Nat.{ℕ, suc, ◌+◌, ◌-◌, ◌≤◌}
use native.Mathlib.Omega.{arith}
use mathlib.Core.List.{List, [], ◌∷◌, ◌++◌}
use lib.Dec.{T, eqb, ltb}
use lib.ListN.{length, take, drop, get_or}
use lib.Seq.{length-take-le, take-append-le, take-take, drop-append-add, drop-drop}
use Rattle.eit.specs.Find.{position_of, place_of}
use Rattle.eit.specs.Among.{is_among}
use Rattle.eit.specs.Sound.{ids_of}
use Rattle.eit.specs.declared.Record.{Record}
use Rattle.eit.proofs.Test.{test_or}
use Rattle.eit.proofs.Find.{place_here, place_later, place_length, position_here, position_later, position_length}
use Rattle.script.specs.Machine.{insert, find, without}
use Rattle.script.proofs.Placing.{insert_here, insert_later, without_here, without_later, find_here, find_later}
use Rattle.script.proofs.Placing.{among_later}

-- ---- the records around the place

pub insert_place : (r : Record) (rs : List Record)
    → insert r rs ≡ take (place_of r.start rs) rs ++ r ∷ drop (place_of r.start rs) rs
insert_place r [] = refl
insert_place r (s ∷ rs) =
    ⊎_elim (λ t. rw (place_here r.start s rs t, insert_here r s rs t))
    (λ t. rw (place_later r.start s rs t, insert_later r s rs t)
    (ap (λ (ss : List Record). s ∷ ss) (insert_place r rs)))
    (test_or (ltb r.start s.start))

pub without_position : (id : ℕ) (rs : List Record) → T (is_among id (ids_of rs))
    → without id rs ≡ take (position_of id rs) rs ++ drop (suc (position_of id rs)) rs
without_position id [] a = absurd a
without_position id (r ∷ rs) a =
    ⊎_elim (λ t. rw (position_here id r rs t, without_here id r rs t))
    (λ t.
    rw (position_later id r rs t, without_later id r rs t)
    (ap (λ (ss : List Record). r ∷ ss) (without_position id rs (among_later id r rs t a))))
    (test_or (eqb id r.id))

pub find_at : (id : ℕ) (rs : List Record) (d : Record) → T (is_among id (ids_of rs))
    → find id rs ≡ get_or rs (position_of id rs) d
find_at id [] d a = absurd a
find_at id (r ∷ rs) d a =
    ⊎_elim (λ t. rw (find_here id r rs t, position_here id r rs t))
    (λ t. rw (find_later id r rs t, position_later id r rs t) (find_at id rs d (among_later id r rs t a)))
    (test_or (eqb id r.id))

-- lists around a place p: what stands before it, and what stands behind it
module _ {A : Type 0} (p k : ℕ) (xs ys : List A) (inside : p ≤ length xs) where
  front_stays : k ≤ p → take k (take p xs ++ ys) ≡ take k xs
  front_stays h = take-append-le k (take p xs) ys (omega (arith, length-take-le p xs inside)) ∙ take-take k p xs h

  back_moves : p ≤ k → drop k (take p xs ++ ys) ≡ drop (k - p) ys
  back_moves h =
      let e : length (take p xs) + (k - p) ≡ k = omega (arith, length-take-le p xs inside) in
      rw e at (drop-append-add (take p xs) ys (k - p))

module _ (k : ℕ) (r : Record) (rs : List Record) where
  pub insert_before : k ≤ place_of r.start rs → take k (insert r rs) ≡ take k rs
  insert_before h =
      let p : ℕ = place_of r.start rs in
      rw (insert_place r rs) (front_stays p k rs (r ∷ drop p rs) (place_length r.start rs) h)

  pub insert_behind : place_of r.start rs ≤ k → drop (suc k) (insert r rs) ≡ drop k rs
  insert_behind h =
      let p : ℕ = place_of r.start rs in
      let e : suc k - p ≡ suc (k - p) = omega arith in
      let f : p + (k - p) ≡ k = omega arith in
      rw (insert_place r rs, back_moves p (suc k) rs (r ∷ drop p rs) (place_length r.start rs) (omega arith), e)
      (drop-drop (k - p) p rs ∙ ap (λ (j : ℕ). drop j rs) f)

module _ (k id : ℕ) (rs : List Record) (a : T (is_among id (ids_of rs))) where
  pub without_before : k ≤ position_of id rs → take k (without id rs) ≡ take k rs
  without_before h =
      let i : ℕ = position_of id rs in
      rw (without_position id rs a) (front_stays i k rs (drop (suc i) rs) (omega (arith, position_length id rs a)) h)

  pub without_behind : position_of id rs ≤ k → drop k (without id rs) ≡ drop (suc k) rs
  without_behind h =
      let i : ℕ = position_of id rs in
      let f : suc i + (k - i) ≡ suc k = omega arith in
      rw (without_position id rs a, back_moves i k rs (drop (suc i) rs) (omega (arith, position_length id rs a)) h)
      (drop-drop (k - i) (suc i) rs ∙ ap (λ (j : ℕ). drop j rs) f)
