-- The search over the records of a lent list, one record at a time: record i's start is number i × 6 + 1. By the passes
-- over the records' starts. Assumes nothing.
use mathlib.Core.Path.{◌≡◌, sym, ap, ◌∙◌}
use mathlib.Core.List.{List}
use Prim.Native.Nat.{ℕ, ◌+◌, ◌*◌, ◌≤◌, ◌<◌}
use native.Mathlib.Omega.{arith}
use lib.ListN.{get_or}
use Rattle.eit.specs.Placing.{placing, records_lent, placing_in}
use Rattle.eit.specs.Records.{lent_list, record_size, records_in}
use Rattle.eit.specs.Sound.{starts_of}
use Rattle.eit.proofs.Placing.{start_is, starts_are, placing_from, place_is, from_start, from_later, from_past}
use Rattle.eit.proofs.Placing.{from_end}

module _ (start : ℕ) (list : List ℕ) (count many : ℕ) where
  abbrev starts : List ℕ
  starts = starts_of (records_in many list)

  -- records before i are passed
  abbrev pub Passed : ℕ → Type 0
  Passed i = placing_in start (lent_list list count) ≡ placing_from start i (starts_of (records_in many list))

  pub passed_none : many ≡ records_lent (lent_list list count) → Passed 0
  unfolding placing_in
  passed_none all =
      ap (λ (n : ℕ). placing start (starts_of (records_in n list))) (sym all) ∙ from_start start starts

  pub passed_later : (i : ℕ) → i < many → Passed i → start < get_or list (i * record_size + 1) 0
      → record { place = i; looked = i + 1 } ≡ placing_in start (lent_list list count)
  passed_later i within so_far later =
      sym (so_far ∙ from_later start i starts (omega (arith, starts_are many list))
      (omega (arith, start_is many list i within)))

  pub passed_more : (i : ℕ) → i < many → Passed i → get_or list (i * record_size + 1) 0 ≤ start → Passed (i + 1)
  passed_more i within so_far past =
      so_far ∙ from_past start i starts (omega (arith, starts_are many list))
      (omega (arith, start_is many list i within))

  pub passed_all : (i : ℕ) → many ≤ i → i ≤ many → Passed i
      → record { place = many; looked = many } ≡ placing_in start (lent_list list count)
  passed_all i end few so_far =
      place_is (omega arith) (omega arith)
      ∙ sym (so_far ∙ from_end start i starts (omega (arith, starts_are many list)))

-- the search, one record at a time
pub ruleset passes = (passed_none, passed_later, passed_more, passed_all)
