-- The last section of a table, by the section counts of its thirty-two segments (01, "Build, Read": "Each table ends
-- with its last segment that has events, or with section 0 if it has none"). Laws: proofs/RowLaws.antt.
-- Assumes nothing.
use Rattle.std.specs.Prelude.{ℕ, zero, suc, ◌+◌, ◌-◌, ◌*◌, ◌≤◌, ◌<◌, true, false, List, eqb, length, get_or}

-- the last segment up to segment k that has sections, or segment 0
abbrev pub last_counted : ℕ → List ℕ → ℕ
last_counted zero counts = 0
last_counted (suc k) counts = elim (eqb (get_or counts (suc k) 0) 0) [ true ↦ last_counted k counts | false ↦ suc k ]

-- L: the number of the last section of that segment
abbrev pub row_last : List ℕ → ℕ
row_last counts = let s = last_counted 31 counts in 8 * s + (get_or counts s 0 - 1)

-- counts of a table that has sections, at most eight in a segment
pub record IsRow (counts : List ℕ) : Type 0 where
  pub long : 32 ≤ length counts
  pub some : 0 < get_or counts 0 0
  pub few : (k : ℕ) → k < 32 → get_or counts k 0 ≤ 8
