-- The answer case by case: `length_or` has all that is known of a length that is given, and of none. Assumes nothing.
use mathlib.Core.Path.{◌≡◌, refl, sym, ap, subst, ◌∙◌}
use mathlib.Core.Bool.{not}
use mathlib.Core.Logic.{◌⊎◌, inl, inr, ⊎_elim}
use mathlib.Core.List.{List}
use Prim.Native.Nat.{ℕ, ◌≤◌, ◌<◌}
use borrow.Author.Tests.{lt-ltb, le-ltb, eq-eqb, ne_eqb}
use lib.Dec.{T}
use Rattle.std.specs.Prelude.{Option, None, Some}
use Rattle.eit.specs.declared.Sizes.{Sizes}
use Rattle.eit.specs.Limits.{window_seconds}
use Rattle.eit.specs.Pools.{Pools}
use Rattle.eit.specs.Records.{EventList}
use Rattle.eit.specs.Events.{Event}
use Rattle.eit.specs.Sound.{sound, events_of}
use Rattle.eit.proofs.Test.{true_is, false_is, test_or, le_or_lt, eq_or_not}
use Rattle.room.specs.OneMore.{is_taken}
use Rattle.room.specs.ChainRoom.{leaves_packable, largest, chain_max, never_one, length_at, ChainRoom, chain_room}
use Rattle.room.proofs.Largest.{NonePasses, Last, largest_or}

-- ---- the list

module _ (sizes : Sizes) (pools : Pools) (list : EventList) (start : ℕ) where
  pub room_unsound : T (not (sound sizes pools list))
      → chain_room sizes pools list start ≡ record { number = 12; given = None }
  unfolding chain_room
  room_unsound unsound = rw (chain_room, false_is (sound sizes pools list) unsound)

  pub room_sound : T (sound sizes pools list)
      → chain_room sizes pools list start ≡ record { number = 0; given = length_at sizes (events_of pools list) start }
  unfolding chain_room
  room_sound is_sound_holds = rw (chain_room, true_is (sound sizes pools list) is_sound_holds)

-- ---- the start

module _ (sizes : Sizes) (es : List Event) (start : ℕ) where
  abbrev pub lasting : Option ℕ
  lasting = largest (leaves_packable sizes es start) (chain_max sizes)

  pub length_taken : T (is_taken start es) → length_at sizes es start ≡ None
  unfolding length_at
  length_taken taken = rw (length_at, true_is (is_taken start es) taken)

  pub length_free : T (not (is_taken start es)) → start < window_seconds → length_at sizes es start ≡ never_one lasting
  unfolding length_at
  length_free free inside = rw (length_at, false_is (is_taken start es) free, lt-ltb start window_seconds inside)

  pub length_past : window_seconds ≤ start → length_at sizes es start ≡ None
  unfolding length_at
  length_past past =
      ⊎_elim length_taken
      (λ free. rw (length_at, false_is (is_taken start es) free, le-ltb start window_seconds past))
      (test_or (is_taken start es))

  -- ---- the length

  -- a length that is given: that of the longest chain that fits, or 0 for 1
  pub record Gives (n : ℕ) : Type 0 where
    pub free : T (not (is_taken start es))
    pub inside : start < window_seconds
    pub longest : ℕ
    pub last : Last (leaves_packable sizes es start) (chain_max sizes) longest
    pub unless_one : ((longest ≡ 1) × (n ≡ 0)) ⊎ ((longest ≡ 1 → ⊥) × (n ≡ longest))

  -- or why none is
  abbrev pub NoneGiven : Type 0
  NoneGiven =
      T (is_taken start es) ⊎ (window_seconds ≤ start) ⊎ NonePasses (leaves_packable sizes es start) (chain_max sizes)

  pub length_or : ((length_at sizes es start ≡ None) × NoneGiven)
      ⊎ ((n : ℕ) × (length_at sizes es start ≡ Some n) × Gives n)
  length_or =
      ⊎_elim (λ taken. inl (length_taken taken, inl taken))
      (λ free.
      ⊎_elim (λ past. inl (length_past past, inr (inl past)))
      (λ inside.
      ⊎_elim (λ (is, fails). inl (length_free free inside ∙ ap never_one is, inr (inr fails)))
      (λ (m, is, last).
      ⊎_elim
      (λ one. inr (
        0,
        length_free free inside ∙ ap never_one is ∙ never_one_holds m one,
        record { free = free; inside = inside; longest = m; last = last; unless_one = inl (one, refl) },
      ))
      (λ other. inr (
        m,
        length_free free inside ∙ ap never_one is ∙ not_one m other,
        record { free = free; inside = inside; longest = m; last = last; unless_one = inr (other, refl) },
      ))
      (eq_or_not m 1)) (largest_or (leaves_packable sizes es start) (chain_max sizes)))
      (le_or_lt window_seconds start)) (test_or (is_taken start es))
    where
      never_one_holds : (m : ℕ) → m ≡ 1 → never_one (Some m) ≡ Some 0
      never_one_holds m one = rw (never_one, eq-eqb m 1 one)

      not_one : (m : ℕ) → (m ≡ 1 → ⊥) → never_one (Some m) ≡ Some m
      not_one m other = rw (never_one, ne_eqb m 1 other)

-- ---- both

some_only : (m n : ℕ) → Some m ≡ Some n → m ≡ n
some_only m n e = cc e

abbrev IsNone : Option ℕ → Type 0
IsNone None = Unit {0}
IsNone (Some n) = ⊥

pub none_some : (n : ℕ) → None ≡ Some n → ⊥
none_some n e = subst IsNone e tt

-- a call that gives a length gives that of a sound list
pub room_gives : (sizes : Sizes) (pools : Pools) (list : EventList) (start n : ℕ)
    → (chain_room sizes pools list start).given ≡ Some n
    → T (sound sizes pools list) × Gives sizes (events_of pools list) start n
room_gives sizes pools list start n e =
    let es : List Event = events_of pools list in
    ⊎_elim
    (λ is_sound_holds.
    let at-start : length_at sizes es start ≡ Some n =
    sym (ap (λ (r : ChainRoom). r.given) (room_sound sizes pools list start is_sound_holds)) ∙ e in (
      is_sound_holds,
      ⊎_elim (λ (is, why). absurd (none_some n (sym is ∙ at-start)))
          (λ (m, is, gives). subst (Gives sizes es start) (some_only m n (sym is ∙ at-start)) gives)
          (length_or sizes es start),
    ))
    (λ unsound.
    absurd
    (none_some n (sym (ap (λ (r : ChainRoom). r.given) (room_unsound sizes pools list start unsound)) ∙ e)))
    (test_or (sound sizes pools list))
