-- How many tables there are, and the identity of zeros (01, "The file of sections", "Build, Read"; 02, W-208). Assumes
-- nothing.
use Rattle.std.specs.Prelude.{ℕ, replicate}
use Rattle.eit.specs.declared.Identity.{Identity}

-- tables 0x50 to 0x5F; 02, W-208: "identity now has sixteen versions"
abbrev pub tables : ℕ
tables = 16

-- ids and versions 0: what a refusal of Read returns
abbrev pub zero_identity : Identity
zero_identity =
    record {
      triplet = record { service_id = 0; transport_stream_id = 0; original_network_id = 0 };
      versions = replicate tables 0;
    }
