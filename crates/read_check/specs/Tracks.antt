-- What the code keeps on its walk over the sections, beside what Read's definition keeps (`Progress`). Laws:
-- proofs/StepLaws.antt, proofs/WalkLaws.antt. Assumes nothing.
use Rattle.std.specs.Prelude.{◌≡◌, List, [], ◌∷◌, ℕ, ◌≤◌, ◌<◌, length, Result, Ok, Err}
use Rattle.std.proofs.Math.Option.{none, some}
use Rattle.sections.specs.Segment.{table_first}
use Rattle.sections.specs.Section.{Header}
use Rattle.sections.specs.HeaderTests.{latest, version_in}
use Rattle.sections.specs.Read.{versions_in}
use Rattle.sections.specs.Walk.{Progress, Verdict, passed, refused}
use Rattle.read_checks.specs.HeaderBefore.{header_before}
use Rattle.read_events.specs.EventsSoFar.{EventsSoFar}
use Rattle.read_answer.specs.Outcome.{error_number, error_value}
use Rattle.read_answer.specs.declared.ReadError.{ReadError}
use Rattle.read_check.specs.declared.section.WalkState.{WalkState}

-- of the tables from 0x50 on, those up to that of the latest header have come, and no other
abbrev pub TablesCome : List Header → Type 0
TablesCome [] = Unit {0}
TablesCome (h ∷ hs) =
    (table : ℕ) → table_first ≤ table
    → (table ≤ h.table_id → (version : ℕ) × (version_in (h ∷ hs) table ≡ some version))
    × (h.table_id < table → version_in (h ∷ hs) table ≡ none)

-- an offset, a state, the versions of the tables and a set of ids are those of the progress p
pub record Tracks (offset : ℕ) (state : WalkState) (versions words : List ℕ) (p : Progress) : Type 0 where
  pub offset_is : p.offset ≡ offset
  pub before_is : latest p.before ≡ header_before state.before
  pub come : TablesCome p.before
  pub versions_are : versions_in p.before ≡ versions
  pub kept : EventsSoFar state.least words p.seen
  pub count_is : length p.seen ≡ state.count

-- the verdict on a section that ends at `end`, with the versions and the set of ids after it, is that of the
-- definition; with a refusal the walk ends, and no one looks at them again
abbrev pub SameVerdict : ℕ → Result WalkState ReadError → List ℕ → List ℕ → Verdict → Type 0
SameVerdict end (Ok state) versions words v = (q : Progress) × (v ≡ passed q) × Tracks end state versions words q
SameVerdict end (Err refusal) versions words v = v ≡ refused (error_number refusal) (error_value refusal)
