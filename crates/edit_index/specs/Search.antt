-- How far a search in an order has come (02, W-203). Laws: proofs/SearchLaws.antt. Assumes nothing.
use Rattle.std.specs.Prelude.{◌≡◌, ℕ, ◌+◌, ◌≤◌, List, length, drop}
use Rattle.eit.specs.Placing.{placing}
use Rattle.edit_index.specs.Order.{starts_in}

-- how many entries stand before the first whose start is later
abbrev pub passed_of : ℕ → List ℕ → ℕ
passed_of start es = (placing start (starts_in es)).place

-- those before i are passed: what is left is to search the others
abbrev pub Passed : ℕ → List ℕ → ℕ → Type 0
Passed start es i = (i ≤ length es) × (passed_of start es ≡ i + passed_of start (drop i es))
