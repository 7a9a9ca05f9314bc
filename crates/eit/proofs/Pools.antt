-- What the chosen part of a pool is, inside the pool and outside it: by the one test of `part`. Assumes nothing.
use mathlib.Core.Path.{◌≡◌, refl, ap, ◌∙◌}
use mathlib.Core.Logic.{⊎_elim}
use mathlib.Core.Bool.{true, false}
use Prim.Native.Nat.{ℕ, ◌+◌, ◌≤◌, ◌<◌}
use native.Mathlib.Omega.{arith}
use mathlib.Core.List.{List, []}
use lib.Arith.{lt→nleb}
use lib.Dec.{T, leb→le, le→leb}
use lib.ListN.{length, take, drop, length-take, length-drop}
use Rattle.eit.specs.Fields.{Bytes}
use Rattle.eit.specs.Pools.{Pools, marks_free_ca, marks_series, marks_off_air, pool_of, in_pool, part, choose}
use Rattle.eit.proofs.Test.{true_is, false_is, le_or_lt}
use Rattle.eit.proofs.Fields.{bytes_take, bytes_drop}

module _ (pool : List ℕ) (offset size : ℕ) where
  pub part_inside : offset + size ≤ length pool → part pool offset size ≡ take size (drop offset pool)
  unfolding part
  part_inside h = rw (part, true_is (in_pool pool offset size) (le→leb (offset + size) (length pool) h))

  -- also where the sum passes every number that 32 bits hold
  pub part_outside : length pool < offset + size → part pool offset size ≡ []
  unfolding part
  part_outside h = rw (part, false_is (in_pool pool offset size) (lt→nleb (offset + size) (length pool) h))

  pub part_length : T (in_pool pool offset size) → length (part pool offset size) ≡ size
  part_length t =
      let h : offset + size ≤ length pool = leb→le (offset + size) (length pool) t in
      ap length (part_inside h) ∙ simp (length-take, length-drop) (omega arith)

-- each of the three marks is its own bit
pub marks_bits : (marks_free_ca 1 ≡ true) × (marks_free_ca 2 ≡ false) × (marks_free_ca 4 ≡ false) × (marks_series 1 ≡ false)
    × (marks_series 2 ≡ true) × (marks_series 4 ≡ false) × (marks_off_air 1 ≡ false) × (marks_off_air 2 ≡ false)
    × (marks_off_air 4 ≡ true)
marks_bits = (refl, refl, refl, refl, refl, refl, refl, refl, refl)

-- marks with 2 choose the series pool, all others the day pool
pub pool_marks : (pools : Pools)
    → (pool_of pools 0 ≡ pools.day) × (pool_of pools 1 ≡ pools.day) × (pool_of pools 2 ≡ pools.series)
    × (pool_of pools 3 ≡ pools.series) × (pool_of pools 4 ≡ pools.day) × (pool_of pools 5 ≡ pools.day)
    × (pool_of pools 6 ≡ pools.series) × (pool_of pools 7 ≡ pools.series)
pool_marks pools = (refl, refl, refl, refl, refl, refl, refl, refl)

pub choose_part : (pools : Pools) (marks offset size : ℕ)
    → choose pools marks offset size ≡ part (pool_of pools marks) offset size
unfolding choose
choose_part pools marks offset size = refl

-- a part of bytes is bytes
pub part_bytes : (pool : List ℕ) (offset size : ℕ) → Bytes pool → Bytes (part pool offset size)
part_bytes pool offset size bytes =
    ⊎_elim (λ h. rw (part_inside pool offset size h)
    (bytes_take size (drop offset pool) (bytes_drop offset pool bytes)))
    (λ h. rw (part_outside pool offset size h) tt)
    (le_or_lt (offset + size) (length pool))
