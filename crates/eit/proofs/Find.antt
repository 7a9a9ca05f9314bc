-- The places of an id and of a start are within the records: by the two cases of each definition. Assumes nothing.
use mathlib.Core.Path.{◌≡◌}
use mathlib.Core.Logic.{⊎_elim}
use mathlib.Core.Bool.{not}
use Prim.Native.Nat.{ℕ, suc, ◌≤◌, ◌<◌}
use native.Mathlib.Omega.{arith}
use mathlib.Core.List.{List, [], ◌∷◌}
use lib.Dec.{T, eqb, ltb}
use lib.ListN.{length}
use Rattle.eit.specs.Among.{is_among}
use Rattle.eit.specs.Find.{position_of, place_of}
use Rattle.eit.specs.Sound.{ids_of}
use Rattle.eit.specs.declared.Record.{Record}
use Rattle.eit.proofs.Test.{or_left, or_right, or_other, test_or, true_is, false_is}

-- ---- the two cases of each place

module _ (start : ℕ) (r : Record) (rs : List Record) where
  pub place_here : T (ltb start r.start) → place_of start (r ∷ rs) ≡ 0
  place_here t = rw (place_of, true_is (ltb start r.start) t)

  pub place_later : T (not (ltb start r.start)) → place_of start (r ∷ rs) ≡ suc (place_of start rs)
  place_later t = rw (place_of, false_is (ltb start r.start) t)

module _ (id : ℕ) (r : Record) (rs : List Record) where
  pub position_here : T (eqb id r.id) → position_of id (r ∷ rs) ≡ 0
  position_here t = rw (position_of, true_is (eqb id r.id) t)

  pub position_later : T (not (eqb id r.id)) → position_of id (r ∷ rs) ≡ suc (position_of id rs)
  position_later t = rw (position_of, false_is (eqb id r.id) t)

pub place_length : (start : ℕ) (rs : List Record) → place_of start rs ≤ length rs
place_length start [] = omega arith
place_length start (r ∷ rs) =
    ⊎_elim (λ t. rw (place_here start r rs t) (omega arith))
    (λ t. rw (place_later start r rs t) (omega (arith, place_length start rs)))
    (test_or (ltb start r.start))

pub position_length : (id : ℕ) (rs : List Record) → T (is_among id (ids_of rs)) → position_of id rs < length rs
position_length id [] a = absurd a
position_length id (r ∷ rs) a =
    ⊎_elim (λ t. rw (position_here id r rs t) (omega arith))
    (λ t. rw (position_later id r rs t)
    (omega (arith, position_length id rs (or_other (eqb id r.id) (is_among id (ids_of rs)) t a))))
    (test_or (eqb id r.id))

-- and an id is present where its position is not behind all records
pub position_among : (id : ℕ) (rs : List Record) → position_of id rs < length rs → T (is_among id (ids_of rs))
position_among id [] h = absurd (omega arith)
position_among id (r ∷ rs) h =
    ⊎_elim (λ t. or_left (eqb id r.id) (is_among id (ids_of rs)) t)
    (λ t. or_right (eqb id r.id) (is_among id (ids_of rs))
    (position_among id rs (omega (arith, position_later id r rs t))))
    (test_or (eqb id r.id))
