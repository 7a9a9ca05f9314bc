-- What demands 2 and 3 speak of: what Build is given besides the output, files that are accepted and carry its events,
-- and segments that eight sections hold (01, "Build, Read"). The demands are in specs/Demands.antt. Assumes nothing.
use Rattle.std.specs.Prelude.{ℕ, ◌-◌, ◌≤◌, List, [], ◌++◌, T, length, take, replicate}
use Rattle.eit.specs.Sizes.{room}
use Rattle.eit.specs.declared.Sizes.{Sizes}
use Rattle.eit.specs.Limits.{base_day_max}
use Rattle.eit.specs.Identity.{tables}
use Rattle.eit.specs.Fields.{Bytes}
use Rattle.eit.specs.Pools.{Pools}
use Rattle.eit.specs.Records.{EventList, records_of}
use Rattle.eit.specs.Events.{Event, AllSame}
use Rattle.eit.specs.Sound.{sound, events_of}
use Rattle.eit.specs.declared.Identity.{Identity}
use Rattle.packing.specs.Greedy.{Packing}
use Rattle.sections.specs.Section.{event_size}
use Rattle.sections.specs.Rules.{IdentityRules}
use Rattle.sections.specs.Count.{segment_events}
use Rattle.sections.specs.Offsets.{file_pools}
use Rattle.sections.specs.Read.{read, list_of}
use Rattle.sections.specs.Exact.{RecordBuffer, Accepted}
use Rattle.schedule.specs.Build.{Built, build}

-- what Build takes besides the output: a sound list with its pools, a legal base day and a legal identity. Bytes are
-- the calls' u8, ids of two bytes (in `IdentityRules`) their u16
pub record Given (sizes : Sizes) : Type 0 where
  pub pools : Pools
  pub list : EventList
  pub base : ℕ
  pub identity : Identity
  pub day_bytes : Bytes pools.day
  pub series_bytes : Bytes pools.series
  pub is_sound : T (sound sizes pools list)
  pub legal_base : base ≤ base_day_max
  pub legal_identity : IdentityRules identity

-- 02, W-208: "Read gives 0 for absent tables": an identity with the versions of so many tables, from 0x50 on, and 0 for
-- the others
abbrev pub with_tables : ℕ → Identity → Identity
with_tables n identity =
    record { triplet = identity.triplet; versions = take n identity.versions ++ replicate (tables - n) 0 }

module _ {sizes : Sizes} where
  abbrev pub built : Given sizes → List ℕ → Built
  built g output = build sizes g.pools g.list g.base g.identity output

  abbrev pub events : Given sizes → List Event
  events g = events_of g.pools g.list

  -- 01's term: carries. The file is accepted, and Read then returns as many records as the list has, each the same
  -- event as the list's record in that place; the file is the pool of what Read returns, and what the record buffer
  -- held does not matter
  pub record Carries (g : Given sizes) (file : List ℕ) : Type 0 where
    pub bytes : Bytes file
    pub accepted : Accepted sizes g.base file
    pub same_events : (buffer : List ℕ) → RecordBuffer buffer
        → AllSame (file_pools file []) g.pools (records_of (list_of (read sizes g.base file buffer)))
        (records_of g.list)

-- at most eight sections hold the events that start in a segment, in their order
abbrev pub EightHold : Sizes → List Event → ℕ → Type 0
EightHold sizes es index =
    (parts : List (List Event)) × Packing event_size (room sizes) (segment_events index es) parts × (length parts ≤ 8)
