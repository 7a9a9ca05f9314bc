-- Build as one total function of list, pools, base day, identity and output (01, "Build, Read", "When a call says no").
-- Laws: proofs/Build.antt. Assumes nothing.
use Rattle.std.specs.Prelude.{ℕ, Bool, true, false, ◌&&◌, List, [], ◌∷◌, leb, length, take}
use Rattle.std.proofs.Math.Option.{none, some}
use Rattle.eit.specs.declared.Sizes.{Sizes}
use Rattle.eit.specs.Limits.{base_day_max, version_max}
use Rattle.eit.specs.Overwrite.{overwrite}
use Rattle.eit.specs.Pools.{Pools}
use Rattle.eit.specs.Records.{EventList}
use Rattle.eit.specs.Events.{Event}
use Rattle.eit.specs.Sound.{sound, events_of}
use Rattle.eit.specs.declared.Identity.{Identity}
use Rattle.sections.specs.Section.{Section, section_sizes}
use Rattle.sections.specs.Encode.{file_bytes}
use Rattle.schedule.specs.SectionsOf.{lowest_unpackable, sections_of}

-- what Build returns, number and value of the answer, and the output after it
pub record Built : Type 0 where
  pub number : ℕ
  pub value : ℕ
  pub output : List ℕ

-- a refusal: its number and what it returns. It leaves the output
abbrev pub refusal : ℕ → ℕ → List ℕ → Built
refusal number value output = record { number = number; value = value; output = output }

-- some sections written: 11 and the bytes needed if the output is short, else success and the file's length. Bytes
-- beyond the file stay
unfoldable pub written : ℕ → List Section → List ℕ → Built
unfolding file_bytes
written base ss output =
    let need = section_sizes ss in
    elim (leb need (length output)) [
      | false ↦ refusal 11 need output
      | true ↦ record { number = 0; value = need; output = overwrite output 0 (file_bytes base ss) }
    ]

-- Build of the events of a sound list: 10, 11
unfoldable pub build_events : Sizes → ℕ → Identity → List Event → List ℕ → Built
unfolding lowest_unpackable sections_of written
build_events sizes base identity es output =
    elim (lowest_unpackable sizes es) [
      | some index ↦ refusal 10 index output
      | none ↦ written base (sections_of sizes identity es) output
    ]

-- 02, W-208: "2 is given if any is above 31", of all sixteen
abbrev pub are_versions : List ℕ → Bool
are_versions [] = true
are_versions (version ∷ versions) = leb version version_max && are_versions versions

-- Build: 1, 2, 12, 10, 11
unfoldable pub build : Sizes → Pools → EventList → ℕ → Identity → List ℕ → Built
unfolding build_events
build sizes pools list base identity output =
    elim (leb base base_day_max) [
      | false ↦ refusal 1 0 output
      | true ↦ elim (are_versions identity.versions) [
        | false ↦ refusal 2 0 output
        | true ↦ elim (sound sizes pools list) [
          | false ↦ refusal 12 0 output
          | true ↦ build_events sizes base identity (events_of pools list) output
        ]
      ]
    ]

-- the file that Build wrote
abbrev pub file_of : Built → List ℕ
file_of built = take built.value built.output
