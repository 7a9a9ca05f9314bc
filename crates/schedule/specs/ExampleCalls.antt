-- What the tables ask of Build, Rebuild and Plan, here and in crate samples_proved, and short forms of what they want.
-- Service, stream and network are 1, 2 and 3. Assumes nothing.
use Rattle.std.specs.Prelude.{ℕ, List, ◌++◌, map, take, replicate}
use Rattle.eit.specs.declared.Sizes.{Sizes}
use Rattle.eit.specs.Sound.{events_of}
use Rattle.eit.specs.declared.Identity.{Identity}
use Rattle.sections.specs.Section.{Section, event_ids}
use Rattle.sections.specs.FileAnswers.{identity_under}
use Rattle.schedule.specs.SectionsOf.{sections_of}
use Rattle.schedule.specs.Plan.{plan}
use Rattle.schedule.specs.Build.{Built, build}
use Rattle.schedule.specs.Rebuild.{rebuild}
use Rattle.schedule.specs.ExampleLists.{Case}

-- the same version for every table
abbrev pub identity_with : ℕ → Identity
identity_with version = identity_under (replicate 16 version)

-- Build under a base day and the versions of all tables, into an output; and under one version
abbrev pub build_under : Sizes → Case → ℕ → List ℕ → List ℕ → Built
build_under sizes c base versions output = build sizes c.pools c.list base (identity_under versions) output

abbrev pub build_with : Sizes → Case → ℕ → ℕ → List ℕ → Built
build_with sizes c base version output = build_under sizes c base (replicate 16 version) output

-- Rebuild: the previous file and its base day, the new list and its base day, the output
abbrev pub rebuild_with : Sizes → List ℕ → ℕ → Case → ℕ → List ℕ → Built
rebuild_with sizes previous previousBase c base output =
    rebuild sizes previous previousBase c.pools c.list base output

-- Plan
abbrev pub plan_with : Sizes → Case → List (List ℕ)
plan_with sizes c = plan sizes c.pools c.list

-- something of each section that Build writes
abbrev pub sections_with : {A : Type 0} → (Section → A) → Sizes → Case → List A
sections_with f sizes c = map f (sections_of sizes (identity_with 0) (events_of c.pools c.list))

-- table_id; S, G, L and last_table_id; the ids of its events
abbrev pub section_row : Section → ℕ × (ℕ × ℕ × ℕ × ℕ) × List ℕ
section_row s =
    let h = s.header in (
      h.table_id,
      (h.section_number, h.segment_last_section_number, h.last_section_number, h.last_table_id),
      event_ids s.events,
    )

-- sixteen tables of thirty-two counts: those given, and 0 after them
abbrev pub padded : List (List ℕ) → List (List ℕ)
padded counts = take 16 (map (λ (cs : List ℕ). take 32 (cs ++ replicate 32 0)) counts ++ replicate 16 (replicate 32 0))
