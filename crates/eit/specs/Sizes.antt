-- The sizes of the two callers (02, W-206), as an argument of every definition that depends on one of them. Their
-- numbers, computed, are in proofs/Numbers.antt. Assumes nothing.
use Rattle.std.specs.Prelude.{ℕ, ◌-◌}
use Rattle.eit.specs.declared.Sizes.{Sizes}
use Rattle.eit.specs.declared.Caller.{Caller}
use Rattle.eit.specs.declared.Caller.TheVariants.{Broadcast, Cable}

-- 01, "The file of sections": section_length, the bytes after its field, is at most 4,093, so a section has at most
-- 4,096; "Event record and sound list": the count is at most 2,048. 02, W-206: "Broadcast keeps 4,096 and 2,048"
abbrev pub broadcast : Sizes
broadcast = record { section_limit = 4096; event_limit = 2048 }

-- 02, W-206: "sections of at most 1,024 bytes in all, .. and at most 256 events"
abbrev pub cable : Sizes
cable = record { section_limit = 1024; event_limit = 256 }

-- 02, W-206: "Every call takes which of the two callers it serves"
abbrev pub sizes_of : Caller → Sizes
sizes_of Broadcast = broadcast
sizes_of Cable = cable

-- bytes of a section around its events: 14 before them, and the four of CRC_32
abbrev pub section_overhead : ℕ
section_overhead = 18

-- 01, "The file of sections": events have 4,078 bytes in a section; 02, W-206: cable's have 1,006
abbrev pub room : Sizes → ℕ
room sizes = sizes.section_limit - section_overhead
