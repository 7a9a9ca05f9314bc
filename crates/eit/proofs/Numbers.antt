-- The sizes and limits come to the numbers that the papers give by other ways: computed. Assumes nothing.
use mathlib.Core.Path.{◌≡◌, refl}
use Prim.Native.Nat.{◌+◌, ◌-◌, ◌*◌, ◌^◌, ◌≤◌}
use native.Mathlib.Omega.{arith}
use Rattle.eit.specs.declared.Caller.{Caller}
use Rattle.eit.specs.declared.Caller.TheVariants.{Broadcast, Cable}
use Rattle.eit.specs.Sizes.{sizes_of, section_overhead, room}
use Rattle.eit.specs.Limits.{id_max, window_seconds, duration_min, duration_max, marks_max, base_day_max, version_max}
use Rattle.eit.specs.Records.{record_size}

-- section_length, the bytes after its field, is 15 to 4,093; events have 4,078 bytes in a section; the records of the
-- largest list are 12,288 numbers
pub broadcast_sizes : let sizes = sizes_of Broadcast in
    (section_overhead - 3 ≡ 15) × (sizes.section_limit - 3 ≡ 4_093) × (room sizes ≡ 4_078)
    × (sizes.event_limit * record_size ≡ 12_288)
broadcast_sizes = (refl, refl, refl, refl)

-- 02, W-206: "sections of at most 1,024 bytes in all, so 1,006 for events, and at most 256 events"
pub cable_sizes : let sizes = sizes_of Cable in
    (sizes.section_limit - 3 ≡ 1_021) × (room sizes ≡ 1_006) × (sizes.event_limit * record_size ≡ 1_536)
cable_sizes = (refl, refl, refl)

-- the range of sizes for which everything is shown holds both callers' (02, W-206: "for any section size from 30 to
-- 4,096, then used at both")
pub caller_least : (caller : Caller) → 30 ≤ (sizes_of caller).section_limit
caller_least Broadcast = omega arith
caller_least Cable = omega arith

pub caller_most : (caller : Caller) → (sizes_of caller).section_limit ≤ 4_096
caller_most Broadcast = omega arith
caller_most Cable = omega arith

pub caller_few : (caller : Caller) → (sizes_of caller).event_limit ≤ 2_048
caller_few Broadcast = omega arith
caller_few Cable = omega arith

-- two bytes for the id; 512 segments of 10,800 seconds, which are 64 days, the last of them the largest MJD of two
-- bytes; durations to 99:59:59; marks 1, 2 and 4; five bits for the version
pub limits_are : (id_max ≡ 256 ^ 2 - 1) × (window_seconds ≡ 512 * 10_800) × (window_seconds ≡ 64 * 86_400)
    × (base_day_max + 63 ≡ 256 ^ 2 - 1)
    × (duration_min ≡ 1) × (duration_max ≡ 99 * 3_600 + 59 * 60 + 59) × (marks_max ≡ 1 + 2 + 4) × (version_max ≡ 2 ^ 5 - 1)
limits_are = (refl, refl, refl, refl, refl, refl, refl, refl)
