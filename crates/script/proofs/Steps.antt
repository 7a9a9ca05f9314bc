-- Which number an edit is refused with, and when it is done: the first check that fails, in the papers' order (01,
-- "When a call says no"; 02, W-204 and W-209): 5, 9, 6, 30, 8. With `put_done`, `withdraw_done` and
-- `move_done` each answer is exact. Assumes nothing.
use mathlib.Core.Path.{◌≡◌, refl, subst, ◌∙◌}
use mathlib.Core.Logic.{◌⊎◌, inl, inr}
use mathlib.Core.Bool.{Bool, true, false, not}
use Prim.Native.Nat.{ℕ}
use native.Mathlib.Omega.{arith}
use mathlib.Core.List.{List, [], ◌∷◌}
use lib.Dec.{T, ltb}
use Rattle.eit.specs.declared.Sizes.{Sizes}
use Rattle.eit.specs.Limits.{window_seconds}
use Rattle.eit.specs.Pools.{Pools}
use Rattle.eit.specs.Records.{EventList, records_of}
use Rattle.eit.specs.Among.{is_among}
use Rattle.eit.specs.Overlap.{overlaps_one}
use Rattle.eit.specs.Sound.{in_range, has_chain, ids_of}
use Rattle.eit.specs.declared.Record.{Record}
use Rattle.eit.proofs.Test.{not_not}
use Rattle.script.specs.Form.{Act, put, withdraw, move}
use Rattle.script.specs.Machine.{limit_of, without, moved, after_put, after_withdraw, after_move, Step, done, refused}
use Rattle.script.specs.Machine.{check, step}

-- what is done is not refused
pub done_none : (next : EventList) (n : ℕ) → done next ≡ refused n → ⊥
done_none next n e = let z : ◌≡◌ {A = ℕ} 0 1 = cc in absurd (omega arith)

-- an edit is done or refused
pub step_or : (s : Step) → ((next : EventList) × (s ≡ done next)) ⊎ ((number : ℕ) × (s ≡ refused number))
step_or (done next) = inl (next, refl)
step_or (refused number) = inr (number, refl)

pub check_passed : (b : Bool) (n : ℕ) (s : Step) → T b → check b n s ≡ s
check_passed true n s t = refl
check_passed false n s t = absurd t

check_failed : (b : Bool) (n : ℕ) (s : Step) → T (not b) → check b n s ≡ refused n
check_failed true n s t = absurd t
check_failed false n s t = refl

-- ---- which numbers there are

-- in their order
abbrev pub edit_numbers : List ℕ
edit_numbers = 5 ∷ 9 ∷ 6 ∷ 30 ∷ 8 ∷ []

-- a step is refused with one of them
abbrev Numbered : Step → Type 0
Numbered s = (n : ℕ) → s ≡ refused n → T (is_among n edit_numbers)

done_numbered : (next : EventList) → Numbered (done next)
done_numbered next n e = absurd (done_none next n e)

check_numbered : (b : Bool) (k : ℕ) {s : Step} → T (is_among k edit_numbers) → Numbered s → Numbered (check b k s)
check_numbered true k is h n e = h n e
check_numbered false k is h n e = let same : k ≡ n = cc in subst (λ (m : ℕ). T (is_among m edit_numbers)) same is

pub step_number : (sizes : Sizes) (pools : Pools) (list : EventList) (a : Act) → Numbered (step sizes pools list a)
unfolding step
step_number sizes pools list (put r) =
    let rs = records_of list in
    check_numbered (in_range r) 5 tt
    (check_numbered (has_chain pools r) 9 tt
    (check_numbered (not (is_among r.id (ids_of rs))) 6 tt
    (check_numbered (not (overlaps_one r rs)) 30 tt
    (check_numbered (ltb list.count (limit_of sizes list)) 8 tt (done_numbered (after_put list r))))))
step_number sizes pools list (withdraw id) =
    check_numbered (is_among id (ids_of (records_of list))) 6 tt (done_numbered (after_withdraw list id))
step_number sizes pools list (move id start) =
    let rs = records_of list in
    check_numbered (ltb start window_seconds) 5 tt
    (check_numbered (is_among id (ids_of rs)) 6 tt
    (check_numbered (not (overlaps_one (moved id start rs) (without id rs))) 30 tt
    (done_numbered (after_move list id start))))

-- ---- which comes when

module _ (sizes : Sizes) (pools : Pools) (list : EventList) (r : Record) where
  abbrev new_id : Bool
  new_id = not (is_among r.id (ids_of (records_of list)))

  abbrev apart : Bool
  apart = not (overlaps_one r (records_of list))

  abbrev below : Bool
  below = ltb list.count (limit_of sizes list)

  pub put_5 : T (not (in_range r)) → step sizes pools list (put r) ≡ refused 5
  unfolding step
  put_5 a = check_failed (in_range r) 5 _ a

  module _ (range : T (in_range r)) where
    pub put_9 : T (not (has_chain pools r)) → step sizes pools list (put r) ≡ refused 9
    unfolding step
    put_9 b = check_passed (in_range r) 5 _ range ∙ check_failed (has_chain pools r) 9 _ b

    module _ (chain : T (has_chain pools r)) where
      pub put_6 : T (not new_id) → step sizes pools list (put r) ≡ refused 6
      unfolding step
      put_6 c = check_passed (in_range r) 5 _ range ∙ check_passed (has_chain pools r) 9 _ chain
          ∙ check_failed new_id 6 _ c

      module _ (id : T new_id) where
        pub put_30 : T (overlaps_one r (records_of list)) → step sizes pools list (put r) ≡ refused 30
        unfolding step
        put_30 d =
            check_passed (in_range r) 5 _ range ∙ check_passed (has_chain pools r) 9 _ chain ∙ check_passed new_id 6 _ id
            ∙ check_failed apart 30 _ (not_not (overlaps_one r (records_of list)) d)

        module _ (clear : T apart) where
          pub put_8 : T (not below) → step sizes pools list (put r) ≡ refused 8
          unfolding step
          put_8 e =
              check_passed (in_range r) 5 _ range ∙ check_passed (has_chain pools r) 9 _ chain ∙ check_passed new_id 6 _ id
              ∙ check_passed apart 30 _ clear ∙ check_failed below 8 _ e

          pub put_passes : T below → step sizes pools list (put r) ≡ done (after_put list r)
          unfolding step
          put_passes e =
              check_passed (in_range r) 5 _ range ∙ check_passed (has_chain pools r) 9 _ chain ∙ check_passed new_id 6 _ id
              ∙ check_passed apart 30 _ clear ∙ check_passed below 8 _ e

module _ (sizes : Sizes) (pools : Pools) (list : EventList) (id : ℕ) where
  pub withdraw_6 : T (not (is_among id (ids_of (records_of list)))) → step sizes pools list (withdraw id) ≡ refused 6
  unfolding step
  withdraw_6 a = check_failed (is_among id (ids_of (records_of list))) 6 _ a

  pub withdraw_passes : T (is_among id (ids_of (records_of list)))
      → step sizes pools list (withdraw id) ≡ done (after_withdraw list id)
  unfolding step
  withdraw_passes a = check_passed (is_among id (ids_of (records_of list))) 6 _ a

  module _ (start : ℕ) where
    pub move_5 : T (not (ltb start window_seconds)) → step sizes pools list (move id start) ≡ refused 5
    unfolding step
    move_5 a = check_failed (ltb start window_seconds) 5 _ a

    module _ (range : T (ltb start window_seconds)) where
      pub move_6 : T (not (is_among id (ids_of (records_of list)))) → step sizes pools list (move id start) ≡ refused 6
      unfolding step
      move_6 b =
          check_passed (ltb start window_seconds) 5 _ range ∙ check_failed (is_among id (ids_of (records_of list))) 6 _ b

      module _ (old : T (is_among id (ids_of (records_of list)))) where
        abbrev others : List Record
        others = without id (records_of list)

        abbrev among : Bool
        among = overlaps_one (moved id start (records_of list)) others

        pub move_30 : T (overlaps_one (moved id start (records_of list)) (without id (records_of list)))
            → step sizes pools list (move id start) ≡ refused 30
        unfolding step
        move_30 c =
            check_passed (ltb start window_seconds) 5 _ range
            ∙ check_passed (is_among id (ids_of (records_of list))) 6 _ old
            ∙ check_failed (not among) 30 _ (not_not among c)

        pub move_passes : T (not (overlaps_one (moved id start (records_of list)) (without id (records_of list))))
            → step sizes pools list (move id start) ≡ done (after_move list id start)
        unfolding step
        move_passes c =
            check_passed (ltb start window_seconds) 5 _ range
            ∙ check_passed (is_among id (ids_of (records_of list))) 6 _ old
            ∙ check_passed (not among) 30 _ c
