-- What the tables ask of check, and answers in raw numbers, apart from Read's own words for them. Assumes nothing.
use Rattle.std.specs.Prelude.{ℕ, List, replicate}
use Rattle.eit.specs.Sizes.{broadcast}
use Rattle.eit.specs.declared.Identity.{Identity}
use Rattle.sections.specs.Read.{Answer, check_file}

-- check's answer, for broadcast
abbrev pub check_answer : List ℕ → Answer
check_answer file = check_file broadcast 49_273 file

-- the identity of specs/Files.antt with these versions
abbrev pub identity_under : List ℕ → Identity
identity_under versions =
    record {
      triplet = record { service_id = 1; transport_stream_id = 2; original_network_id = 3 };
      versions = versions;
    }

-- success with so many events under these versions, and under those of specs/Files.antt
abbrev pub accepted_under : List ℕ → ℕ → Answer
accepted_under versions events =
    record { number = 0; value = events; identity = identity_under versions; count = events }

abbrev pub accepted_with : ℕ → Answer
accepted_with events = accepted_under (replicate 16 0) events

-- a refusal with its number and value
abbrev pub refused_with : ℕ → ℕ → Answer
refused_with number value =
    record {
      number = number;
      value = value;
      identity =
          record {
            triplet = record { service_id = 0; transport_stream_id = 0; original_network_id = 0 };
            versions = replicate 16 0;
          };
      count = 0;
    }
