-- The records of sections that stand in a file: where each chain lies (01, "Build, Read": "marks never have 2, offsets
-- are into the file"). Laws: proofs/Offsets.antt. Assumes nothing.
use Rattle.std.specs.Prelude.{ℕ, ◌+◌, ◌*◌, List, [], ◌∷◌, ◌++◌, length}
use Rattle.eit.specs.Pools.{Pools}
use Rattle.eit.specs.Events.{Event}
use Rattle.eit.specs.declared.Record.{Record}
use Rattle.sections.specs.Section.{Section, event_overhead, event_size, header_size, section_size}
use Rattle.sections.specs.Encode.{bit_of}

-- the record of an event whose bytes begin at `at`; its chain, also one of no bytes, lies right behind the 12 bytes
-- before it
abbrev pub record_at : ℕ → Event → Record
record_at at e =
    record {
      id = e.id;
      start = e.start;
      duration = e.duration;
      marks = bit_of e.free_ca + bit_of e.off_air * 4;
      offset = at + event_overhead;
      chain_length = length e.chain;
    }

-- the records of events that stand one behind the other
abbrev pub records_at : ℕ → List Event → List Record
records_at at [] = []
records_at at (e ∷ es) = record_at at e ∷ records_at (at + event_size e) es

-- the records of sections that stand one behind the other
abbrev pub records_from : ℕ → List Section → List Record
records_from at [] = []
records_from at (s ∷ ss) = records_at (at + header_size) s.events ++ records_from (at + section_size s) ss

-- the pools in which a file's records find their chains: the file is the day pool, and no record has marks with 2
abbrev pub file_pools : List ℕ → List ℕ → Pools
file_pools file series = record { day = file; series = series }
