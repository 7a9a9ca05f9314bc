-- What W-208 claims of Rebuild (02, "Version by sub-table"), each clause above its theorem; what it says of identity,
-- Read and Build is in the definitions and in `Demands`. The value is `versions` of proofs/Versions.antt.
-- Assumes nothing.
use Rattle.std.specs.Prelude.{◌≡◌, List, [], ◌↔◌, ℕ, ◌+◌, ◌%◌, ◌≤◌}
use Rattle.eit.specs.Sizes.{sizes_of}
use Rattle.eit.specs.declared.Sizes.{Sizes}
use Rattle.eit.specs.declared.Caller.{Caller}
use Rattle.eit.specs.Fields.{Bytes}
use Rattle.eit.specs.Pools.{Pools}
use Rattle.eit.specs.Records.{EventList}
use Rattle.eit.specs.declared.Identity.{Identity}
use Rattle.sections.specs.Segment.{table_first, table_max}
use Rattle.sections.specs.Section.{version_of}
use Rattle.sections.specs.Rules.{IdentityRules}
use Rattle.sections.specs.Read.{check_file}
use Rattle.schedule.specs.Build.{Built, build, file_of}
use Rattle.schedule.specs.Rebuild.{table_sections, table_bytes, rebuild}
use Rattle.schedule.specs.Given.{Given, built}

-- a table's version in a file that was rebuilt, by the previous file and its identity
pub record NextVersion (identity : Identity) (previous file : List ℕ) (table version : ℕ) : Type 0 where
  -- "a table not there before takes 0"
  pub new : table_sections table previous ≡ [] → version ≡ 0
  -- "A table whose bytes, version and CRC aside, are equal keeps its version"
  pub kept : (table_sections table previous ≡ [] → ⊥) → table_bytes table previous ≡ table_bytes table file
      → version ≡ version_of identity table
  -- "another takes the old one plus 1 modulo 32"
  pub raised : (table_sections table previous ≡ [] → ⊥) → (table_bytes table previous ≡ table_bytes table file → ⊥)
      → version ≡ (version_of identity table + 1) % 32

module _ {sizes : Sizes} where
  -- the same list, pools and base day under another identity
  abbrev pub given_under : (g : Given sizes) (identity : Identity) → IdentityRules identity → Given sizes
  given_under g identity legal =
      record {
        pools = g.pools;
        list = g.list;
        base = g.base;
        identity = identity;
        day_bytes = g.day_bytes;
        series_bytes = g.series_bytes;
        is_sound = g.is_sound;
        legal_base = g.legal_base;
        legal_identity = legal;
      }

  -- Rebuild of a list, by the previous file and its base day; the identity of `Given` plays no part
  abbrev pub rebuilt : Given sizes → List ℕ → ℕ → List ℕ → Built
  rebuilt g previous day output = rebuild sizes previous day g.pools g.list g.base output

pub record VersionsFor (sizes : Sizes) : Type 0 where
  -- "The previous file is read first, and its refusal number and offset are returned if Read refuses it; output is then
  -- untouched"
  pub previous_refused_holds : (previous : List ℕ) (day : ℕ) (pools : Pools) (list : EventList) (base : ℕ) (output : List ℕ)
      → let read = check_file sizes day previous in
      (read.number ≡ 0 → ⊥)
      → rebuild sizes previous day pools list base output
      ≡ record { number = read.number; value = read.value; output = output }
  -- "builds under the previous service, stream and network"; "Build's refusals follow": it is Build under an identity
  -- with these and with versions of 5 bits, of any list
  pub builds : (previous : List ℕ) (day : ℕ) (pools : Pools) (list : EventList) (base : ℕ) (output : List ℕ)
      → Bytes previous
      → let read = check_file sizes day previous in
      read.number ≡ 0
      → (identity : Identity) × IdentityRules identity × (identity.triplet ≡ read.identity.triplet)
      × (rebuild sizes previous day pools list base output ≡ build sizes pools list base identity output)
  -- so of a sound list all that `Demands` says of Build is said of it; and where it writes, each table has the version
  -- that the request says, of the previous file's tables and of those of the file that was written
  pub versioned : (g : Given sizes) (previous : List ℕ) (day : ℕ) (output : List ℕ) → Bytes previous
      → let read = check_file sizes day previous in
      read.number ≡ 0
      → (identity : Identity) × (legal : IdentityRules identity) × (identity.triplet ≡ read.identity.triplet)
      × (rebuilt g previous day output ≡ built (given_under g identity legal) output)
      × ((rebuilt g previous day output).number ≡ 0
      → (table : ℕ) → table_first ≤ table → table ≤ table_max
      → NextVersion read.identity previous (file_of (rebuilt g previous day output)) table (version_of identity table))
  -- "A table whose bytes, version and CRC aside, are equal": nothing else is aside, since of two tables with the same
  -- version in accepted files they are equal exactly if all sections are ..
  pub nothing_else_aside : (a b : ℕ) (first second : List ℕ) → Bytes first → Bytes second
      → (check_file sizes a first).number ≡ 0 → (check_file sizes b second).number ≡ 0
      → (table : ℕ)
      → version_of (check_file sizes a first).identity table ≡ version_of (check_file sizes b second).identity table
      → (table_bytes table first ≡ table_bytes table second) ↔ (table_sections table first ≡ table_sections table second)
  -- .. and these two are: Build's file has the same under every versions
  pub versions_aside : (g : Given sizes) (identity : Identity) (legal : IdentityRules identity)
      → g.identity.triplet ≡ identity.triplet
      → (output other : List ℕ) → (built g output).number ≡ 0 → (built (given_under g identity legal) other).number ≡ 0
      → (table : ℕ)
      → table_bytes table (file_of (built (given_under g identity legal) other))
      ≡ table_bytes table (file_of (built g output))
  -- a list that has not changed: the file that Build wrote, rebuilt under its base day, stays as it is
  pub unchanged : (g : Given sizes) (output other : List ℕ) → (built g output).number ≡ 0
      → rebuilt g (file_of (built g output)) g.base other ≡ built g other
  -- never 2, never 27
  pub never_2 : (previous : List ℕ) (day : ℕ) (pools : Pools) (list : EventList) (base : ℕ) (output : List ℕ)
      → Bytes previous
      → (rebuild sizes previous day pools list base output).number ≡ 2 → ⊥
  pub never_27 : (previous : List ℕ) (day : ℕ) (pools : Pools) (list : EventList) (base : ℕ) (output : List ℕ)
      → Bytes previous
      → (rebuild sizes previous day pools list base output).number ≡ 27 → ⊥
  -- a refusal leaves the output
  pub rebuild_leaves : (previous : List ℕ) (day : ℕ) (pools : Pools) (list : EventList) (base : ℕ) (output : List ℕ)
      → ((rebuild sizes previous day pools list base output).number ≡ 0 → ⊥)
      → (rebuild sizes previous day pools list base output).output ≡ output

-- 02, W-206: "A claim over several calls has one caller."
abbrev pub Versions : Type 0
Versions = (caller : Caller) → VersionsFor (sizes_of caller)
