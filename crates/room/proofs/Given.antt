-- Which events are held where a length is given, and where none is: an event is held exactly if a chain of its length
-- leaves the segment packable, and the length that is given is the longest, but for 1. Assumes nothing.
use mathlib.Core.Path.{◌≡◌, refl, sym, subst, ◌∙◌}
use mathlib.Core.Logic.{◌↔◌, ◌⊎◌, inl, inr, ⊎_elim}
use mathlib.Core.List.{List, [], ◌∷◌}
use Prim.Native.Nat.{ℕ, zero, suc, ◌+◌, ◌≤◌, ◌<◌}
use native.Mathlib.Omega.{arith}
use lib.Dec.{T, T_not}
use lib.ListN.{length}
use Rattle.std.specs.Prelude.{None}
use Rattle.eit.specs.declared.Sizes.{Sizes}
use Rattle.eit.specs.Chain.{is_chain}
use Rattle.eit.specs.Events.{Event}
use Rattle.eit.proofs.Test.{le_or_lt, test_or}
use Rattle.eit.proofs.Chain.{chain_one}
use Rattle.sections.specs.Segment.{segment_index}
use Rattle.schedule.proofs.Packable.{eight_hold, held_packable}
use Rattle.room.specs.OneMore.{inserted, event_of_length}
use Rattle.room.specs.ChainRoom.{leaves_packable, chain_max, length_at}
use Rattle.room.specs.StillFits.{HeldWith, Taken}
use Rattle.room.proofs.OneMore.{taken_found, found_taken}
use Rattle.room.proofs.Largest.{NonePasses}
use Rattle.room.proofs.ByLength.{packable_by_length, shorter_leaves, leaves_most}
use Rattle.room.proofs.ChainRoom.{length_taken, length_past, length_or}
use Rattle.room.proofs.ChainRoom.{Gives, none_some}

-- ---- an event is held exactly if a chain of its length leaves the segment packable

module _ (sizes : Sizes) (es : List Event) (e : Event) where
  pub held_leaves : HeldWith sizes es e → T (leaves_packable sizes es e.start (length e.chain))
  held_leaves held =
      subst T (packable_by_length sizes es e) (held_packable sizes (inserted e es) (segment_index e.start) held)

  pub leaves_held : T (leaves_packable sizes es e.start (length e.chain)) → HeldWith sizes es e
  leaves_held leaves =
      eight_hold sizes (inserted e es) (segment_index e.start) (subst T (sym (packable_by_length sizes es e)) leaves)

-- no chain has one byte
chain_not_one : (bs : List ℕ) → T (is_chain bs) → length bs ≡ 1 → ⊥
chain_not_one [] t one = omega arith
chain_not_one (tag ∷ []) t one = subst T (chain_one tag) t
chain_not_one (tag ∷ n ∷ bs) t one = omega arith

-- ---- a length that is given

few_not_one : (k n : ℕ) → (k ≡ 1 → ⊥) → k ≤ 1 → k ≤ n
few_not_one k n other few = ⊎_elim (λ none. omega arith) (λ some. absurd (other (omega arith))) (le_or_lt k 0)

module _ (sizes : Sizes) (es : List Event) where
  -- it is the longest chain that fits, but for 1
  given_most : {start n : ℕ} (gives : Gives sizes es start n) → n ≤ gives.longest
  given_most gives = ⊎_elim (λ (one, is). omega arith) (λ (other, is). omega arith) gives.unless_one

  given_least : {start n : ℕ} (gives : Gives sizes es start n) (size : ℕ) → (size ≡ 1 → ⊥) → size ≤ gives.longest
      → size ≤ n
  given_least {n = n} gives size other within =
      ⊎_elim (λ (one, is). few_not_one size n other (omega arith)) (λ (not_one, is). omega arith) gives.unless_one

  fitting_within : {start n : ℕ} (gives : Gives sizes es start n) (size : ℕ) → T (leaves_packable sizes es start size)
      → size ≤ gives.longest
  fitting_within {start} gives size leaves =
      ⊎_elim (λ few. few)
      (λ more.
      absurd
      (T_not (leaves_packable sizes es start size)
      (gives.last.behind size more (omega (arith, leaves_most sizes es start size leaves))) leaves))
      (le_or_lt size gives.longest)

  pub given_exactly : (e : Event) (n : ℕ) → T (is_chain e.chain) → Gives sizes es e.start n
      → HeldWith sizes es e ↔ (length e.chain ≤ n)
  given_exactly e n chain gives =
      let size : ℕ = length e.chain in (
        λ held.
            given_least gives size (chain_not_one e.chain chain)
            (fitting_within gives size (held_leaves sizes es e held)),
        λ few.
            leaves_held sizes es e
            (shorter_leaves sizes es e.start size gives.longest (omega (arith, given_most gives))
            gives.last.itself),
      )

  pub given_room : {start n : ℕ} → Gives sizes es start n → n + 30 ≤ sizes.section_limit
  given_room {start} gives =
      omega (arith, given_most gives, leaves_most sizes es start gives.longest gives.last.itself)

  pub given_not_one : {start : ℕ} → Gives sizes es start 1 → ⊥
  given_not_one gives = ⊎_elim (λ (one, is). omega arith) (λ (other, is). other (sym is)) gives.unless_one

  -- ---- none

  pub none_held : (start : ℕ) → NonePasses (leaves_packable sizes es start) (chain_max sizes)
      → (e : Event) → e.start ≡ start → HeldWith sizes es e → ⊥
  none_held start fails e at held =
      let size : ℕ = length e.chain in
      let leaves : T (leaves_packable sizes es start size) =
      subst (λ (s : ℕ). T (leaves_packable sizes es s size)) at (held_leaves sizes es e held) in
      T_not (leaves_packable sizes es start size)
      (fails size (omega (arith, leaves_most sizes es start size leaves))) leaves

  -- not even 0 fits, so nothing does
  held_none : (start : ℕ) → ((e : Event) → e.start ≡ start → e.chain ≡ [] → HeldWith sizes es e → ⊥)
      → NonePasses (leaves_packable sizes es start) (chain_max sizes)
  held_none start none-there m few =
      let e : Event = event_of_length start 0 in
      ⊎_elim
      (λ leaves.
      absurd
      (none-there e refl refl
      (leaves_held sizes es e (shorter_leaves sizes es start 0 m (omega arith) leaves))))
      (λ fails. fails) (test_or (leaves_packable sizes es start m))

  pub none_at : (start : ℕ)
      → (length_at sizes es start ≡ None)
      ↔ (Taken start es ⊎ (5_529_600 ≤ start)
      ⊎ ((e : Event) → e.start ≡ start → e.chain ≡ [] → HeldWith sizes es e → ⊥))
  none_at start = (
    λ is.
        ⊎_elim
        (λ (same, why).
        ⊎_elim (λ taken. inl (taken_found start es taken))
        (λ other.
        inr (⊎_elim (λ past. inl past) (λ fails. inr (λ e at none_has. none_held start fails e at)) other)) why)
        (λ (n, same, gives). absurd (none_some n (sym is ∙ same))) (length_or sizes es start),
    λ why.
        ⊎_elim (λ taken. length_taken sizes es start (found_taken start es taken))
        (λ other.
        ⊎_elim (λ past. length_past sizes es start past)
        (λ none-there.
        ⊎_elim (λ (same, w). same)
        (λ (n, same, gives).
        absurd
        (T_not (leaves_packable sizes es start gives.longest)
        (held_none start none-there gives.longest gives.last.within) gives.last.itself))
        (length_or sizes es start)) other)
        why,
  )

  -- at a start that is free and in the window
  pub none_free : (start : ℕ) → length_at sizes es start ≡ None → (Taken start es → ⊥) → start < 5_529_600
      → (e : Event) → e.start ≡ start → HeldWith sizes es e → ⊥
  none_free start is free inside e at held =
      ⊎_elim
      (λ (same, why).
      ⊎_elim (λ taken. free (taken_found start es taken))
      (⊎_elim (λ past. omega arith) (λ fails. none_held start fails e at held)) why)
      (λ (n, same, gives). none_some n (sym is ∙ same)) (length_or sizes es start)

-- ---- every length but 1 is that of a chain: descriptors without a body, and for an odd length one with a byte

pub some_chain : (n : ℕ) → (n ≡ 1 → ⊥) → (bs : List ℕ) × T (is_chain bs) × (length bs ≡ n)
unfolding is_chain
some_chain zero other = ([], tt, refl)
some_chain (suc zero) other = absurd (other refl)
some_chain (suc (suc zero)) other = (0 ∷ 0 ∷ [], tt, refl)
some_chain (suc (suc (suc zero))) other = (0 ∷ 1 ∷ 0 ∷ [], tt, refl)
some_chain (suc (suc (suc (suc n)))) other =
    let (bs, chain, size) = some_chain (suc (suc n)) (λ one. omega arith) in (0 ∷ 0 ∷ bs, chain, omega arith)
