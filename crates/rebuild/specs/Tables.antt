-- The tables of a file one after the other, as bytes, and their next versions by these (02, W-208). Laws:
-- proofs/LeadingLaws.antt, proofs/NextLaws.antt. Assumes nothing.
use Rattle.std.specs.Prelude.{true, false, ℕ, ◌+◌, ◌%◌, ◌≤◌, eqb}
use mathlib.Core.List.{List, [], ◌∷◌, flatten}
use Rattle.eit.specs.Identity.{tables}
use Rattle.eit.specs.SameList.{same_list}
use Rattle.eit.specs.Fields.{field}
use Rattle.sections.specs.Each.{each}
use Rattle.sections.specs.Segment.{table_first}
use Rattle.sections.specs.Section.{table_version}
use Rattle.schedule.specs.Rebuild.{table_sections}

-- the sections of a table at the front of some sections
abbrev pub leading : ℕ → List (List ℕ) → List (List ℕ)
leading table [] = []
leading table (bs ∷ rest) = elim (eqb (field 0 1 bs) table) [ true ↦ bs ∷ leading table rest | false ↦ [] ]

-- tables come in their order, from one on
abbrev pub RisingFrom : ℕ → List (List ℕ) → Type 0
RisingFrom table [] = Unit {0}
RisingFrom table (bs ∷ rest) = (table ≤ field 0 1 bs) × RisingFrom (field 0 1 bs) rest

-- a table's next version: where the previous file has bytes of it, and the new one others, the old one plus 1 modulo 32
abbrev pub next_by : ℕ → List ℕ → List ℕ → ℕ
next_by version [] new = version
next_by version (b ∷ bs) new = elim (same_list (b ∷ bs) new) [ true ↦ version | false ↦ (version + 1) % 32 ]

-- those of all tables. Where the versions are those of the previous file, and the new one has the same, they are
-- `next_version`'s (`next_versions`)
unfoldable pub next_versions_by : List ℕ → List ℕ → List ℕ → List ℕ
unfolding each flatten table_sections
next_versions_by previous file versions =
    each
    (λ (table : ℕ).
    next_by (table_version versions table) (flatten (table_sections table previous)) (flatten (table_sections table file)))
    table_first tables
