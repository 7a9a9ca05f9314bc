-- The two lent pools and the part of one that a record chooses (01, "Event record and sound list"). Laws:
-- proofs/Pools.antt. Assumes nothing.
use Rattle.std.specs.Prelude.{ℕ, ◌+◌, ◌/◌, ◌%◌, Bool, true, false, List, [], leb, eqb, length, take, drop}

-- 01's term: pool. Descriptor bytes lie in one of two lent pools, day or series
pub record Pools : Type 0 where
  pub day : List ℕ
  pub series : List ℕ

-- the pools that a call is lent
abbrev pub lent_pools : List ℕ → List ℕ → Pools
lent_pools day series = record { day = day; series = series }

-- whether a bit is set: the bit of value 1 of `odd marks`, of value 2 of `odd (marks / 2)`, and so on
abbrev pub odd : ℕ → Bool
odd n = eqb (n % 2) 1

-- 01's term: marks. 1 = free_CA_mode, 2 = series pool, 4 = off air; of marks above 7, too, the bit decides
abbrev pub marks_free_ca : ℕ → Bool
marks_free_ca marks = odd marks

abbrev pub marks_series : ℕ → Bool
marks_series marks = odd (marks / 2)

abbrev pub marks_off_air : ℕ → Bool
marks_off_air marks = odd (marks / 4)

-- marks with 2 choose the series pool, all others the day pool
abbrev pub pool_of : Pools → ℕ → List ℕ
pool_of pools marks = elim (marks_series marks) [ true ↦ pools.series | false ↦ pools.day ]

-- each part lies in its pool (offset + length at most the pool's); the sum does not wrap
abbrev pub in_pool : List ℕ → ℕ → ℕ → Bool
in_pool pool offset size = leb (offset + size) (length pool)

-- 01's term: part. A part outside its pool gives an empty one
unfoldable pub part : List ℕ → ℕ → ℕ → List ℕ
part pool offset size = elim (in_pool pool offset size) [ true ↦ take size (drop offset pool) | false ↦ [] ]

-- choosing returns that part of the chosen pool
unfoldable pub choose : Pools → ℕ → ℕ → ℕ → List ℕ
unfolding part
choose pools marks offset size = part (pool_of pools marks) offset size
