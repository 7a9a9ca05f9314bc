-- Long chains, and lists for specs/Samples.antt and specs/Limits.antt. Assumes nothing.
use Rattle.std.specs.Prelude.{ℕ, ◌-◌, ◌/◌, ◌%◌, List, [], ◌∷◌, ◌++◌, replicate}
use Rattle.eit.specs.Chain.{Descriptor, chain_bytes}
use Rattle.eit.specs.Records.{EventList}
use Rattle.schedule.specs.ExampleLists.{row, event_record, Case, case_of, chained}

-- a descriptor with a body of n bytes
abbrev pub descriptor : ℕ → Descriptor
descriptor n = record { tag = 0x4D; body = replicate n 0 }

-- a chain of n bytes: full descriptors of 257 bytes, and one of the bytes that are left, which must be two at least
unfoldable pub chain_of : ℕ → List ℕ
chain_of n = chain_bytes (replicate (n / 257) (descriptor 255) ++ (descriptor (n % 257 - 2) ∷ []))

-- n events with chains of 4,066 bytes, a second apart from `start` on
abbrev pub long : ℕ → ℕ → Case
long start n = chained (chain_of 4_066) (row start n)

-- events with chains of 4,067 bytes: one at segment index 33, in table 0x51; and one at 0, one at 33
abbrev pub overlong : Case
overlong = chained (chain_of 4_067) (356_400 ∷ [])

abbrev pub overlongs : Case
overlongs = chained (chain_of 4_067) (0 ∷ 356_400 ∷ [])

-- an event without descriptors at 0, and one with a chain of 4,067 bytes at segment index 33
abbrev pub overlong_later : Case
overlong_later = case_of (chain_of 4_067) [] (event_record 1 0 0 0 ∷ event_record 2 356_400 0 4_067 ∷ [])

-- two events in segment 0 with chains of so many bytes, the second in the series pool
abbrev pub pair : ℕ → ℕ → Case
pair first second = case_of (chain_of first) (chain_of second) (event_record 1 0 0 first ∷ event_record 2 1 2 second ∷ [])

-- one event of 01:45:30
abbrev pub programme : ℕ → Case
programme start =
    case_of [] [] (record { id = 1; start = start; duration = 6_330; marks = 0; offset = 0; chain_length = 0 } ∷ [])

-- twelve zeros that hold no event
abbrev pub zeros : EventList
zeros = record { buffer = replicate 12 0; count = 0 }

-- the file without events: 14 bytes that document 01 gives, and CRC_32
abbrev pub empty_file : List ℕ
empty_file =
    0x50 ∷ 0xF0 ∷ 0x0F ∷ 0x00 ∷ 0x01 ∷ 0xC1 ∷ 0x00 ∷ 0x00 ∷ 0x00 ∷ 0x02 ∷ 0x00 ∷ 0x03 ∷ 0x00 ∷ 0x50
    ∷ 0x78 ∷ 0xAE ∷ 0x5B ∷ 0xF0 ∷ []
