-- Answers computed (02, W-201): the figures of the papers' sizes, short sections, and which answer comes first. The
-- values are in proofs/Examples.antt. Assumes nothing.
use Rattle.std.specs.Prelude.{ℕ, ◌*◌, ◌-◌, ◌/◌, ◌%◌, ◌≡◌, List, [], ◌∷◌, ◌++◌, map, replicate, None, Some}
use Rattle.eit.specs.Chain.{Descriptor, chain_bytes}
use Rattle.eit.specs.Sizes.{broadcast, cable}
use Rattle.eit.specs.declared.Sizes.{Sizes}
use Rattle.eit.specs.declared.Record.{Record}
use Rattle.schedule.specs.Examples.{sections_of_at_most}
use Rattle.schedule.specs.ExampleLists.{row, event_record, starting, Case, case_of, chained, plain_events}
use Rattle.schedule.specs.ExampleLists.{crowded, unsound}
use Rattle.room.specs.ChainRoom.{ChainRoom, chain_room}

-- the answer for a case
abbrev pub room_in : Sizes → Case → ℕ → ChainRoom
room_in sizes c start = chain_room sizes c.pools c.list start

-- in raw numbers: a length, none, and a refusal
abbrev pub fits_up_to : ℕ → ChainRoom
fits_up_to n = record { number = 0; given = Some n }

abbrev pub none_fits : ChainRoom
none_fits = record { number = 0; given = None }

abbrev pub refused12 : ChainRoom
refused12 = record { number = 12; given = None }

-- a descriptor with a body of n bytes
abbrev pub descriptor : ℕ → Descriptor
descriptor n = record { tag = 0x4D; body = replicate n 0 }

-- a chain of n bytes: full descriptors of 257 bytes, and one of the bytes that are left, which must be two at least
unfoldable pub chain_of : ℕ → List ℕ
chain_of n = chain_bytes (replicate (n / 257) (descriptor 255) ++ (descriptor (n % 257 - 2) ∷ []))

-- seven events with chains of 4,066 bytes, at 0, 10, .. 60, and then others, with ids from 8 on; a chain of 4,053 bytes
-- is in the series pool
abbrev pub seven_and : List Record → Case
seven_and rs =
    case_of (chain_of 4_066) (chain_of 4_053) (starting 1 4_066 (0 ∷ 10 ∷ 20 ∷ 30 ∷ 40 ∷ 50 ∷ 60 ∷ []) ++ rs)

-- those and one that leaves 13 bytes of the eighth section, and one that leaves none
abbrev pub thirteen_left : Case
thirteen_left = seven_and (event_record 8 70 2 4_053 ∷ [])

abbrev pub eight_full : Case
eight_full = seven_and (event_record 8 70 0 4_066 ∷ [])

-- the seven and n + 10 without descriptors, a second apart from 70 on, with 80 left out
abbrev pub seven_and_plain : ℕ → Case
seven_and_plain n = seven_and (starting 8 0 (row 70 10 ++ row 81 n))

-- the figures of the request, in the papers' sizes
pub record Figures : Type 0 where
  -- an empty segment: "0 to 4,066"; 02, W-206: "the text that still fits is at most 994"
  pub most : room_in broadcast (plain_events 0 0) 0 ≡ fits_up_to 4_066
  pub cable_most : room_in cable (plain_events 0 0) 0 ≡ fits_up_to 994
  -- seven events that fill a section, and one that leaves 13 bytes: behind it 0 and not 1, between the first two none
  pub thirteen_left_holds : room_in broadcast thirteen_left 80 ≡ fits_up_to 0
  pub between_first_two : room_in broadcast thirteen_left 5 ≡ none_fits
  -- seven and 338 without descriptors leave 22 bytes; with 339 there are ten, too few for an event
  pub among_338 : room_in broadcast (seven_and_plain 328) 80 ≡ fits_up_to 10
  pub among_339 : room_in broadcast (seven_and_plain 329) 80 ≡ none_fits
  -- eight that fill a section
  pub eight_full_holds : room_in broadcast eight_full 80 ≡ none_fits

-- sections of 44 bytes have 26 for events: one event with a chain of 14, or two without descriptors
abbrev pub short : Sizes
short = sections_of_at_most 44

-- eight events at 0, 10, .. 70, of which the first seven fill a section of 44 bytes
abbrev pub seven_short : Case
seven_short =
    case_of (chain_of 14) []
    (starting 1 14 (0 ∷ 10 ∷ 20 ∷ 30 ∷ 40 ∷ 50 ∷ 60 ∷ []) ++ (event_record 8 70 0 0 ∷ []))

-- an event from 100 to 200, and one in the last second of the window
abbrev pub running : Case
running =
    case_of [] []
    (record { id = 1; start = 100; duration = 100; marks = 0; offset = 0; chain_length = 0 }
    ∷ event_record 2 5_529_599 0 0 ∷ [])

-- the same list with the first event alone
abbrev pub fewer_counted : Case
fewer_counted = record { pools = running.pools; list = record { buffer = running.list.buffer; count = 1 } }

-- eight events that fill a section of 44 bytes each, with their chain in the series pool
abbrev pub series_full : Case
series_full =
    case_of [] (chain_of 14)
    (event_record 1 0 2 14 ∷ event_record 2 10 2 14 ∷ event_record 3 20 2 14 ∷ event_record 4 30 2 14
    ∷ event_record 5 40 2 14 ∷ event_record 6 50 2 14 ∷ event_record 7 60 2 14 ∷ event_record 8 70 2 14 ∷ [])

-- fifteen events without descriptors, ten seconds apart from 0 on
abbrev pub fifteen : Case
fifteen = chained [] (map (λ (n : ℕ). 10 * n) (row 0 15))

pub record Examples : Type 0 where
  pub empty : room_in short (plain_events 0 0) 0 ≡ fits_up_to 14
  -- the eighth section has 14 bytes left: behind its event, and right before it, a chain of 2 fits; between the first
  -- two, whose sections are full, none
  pub two_left : room_in short seven_short 80 ≡ fits_up_to 2
  pub right_before : room_in short seven_short 65 ≡ fits_up_to 2
  pub short_between : room_in short seven_short 5 ≡ none_fits
  -- fifteen events leave half a section: 14 bytes of 26, 13 of 25, 12 of 24, and of 23 none, since each has its own
  pub half_left : room_in (sections_of_at_most 44) fifteen 75 ≡ fits_up_to 2
  pub length_1 : room_in (sections_of_at_most 43) fifteen 75 ≡ fits_up_to 0
  pub length_0 : room_in (sections_of_at_most 42) fifteen 75 ≡ fits_up_to 0
  pub too_many : room_in (sections_of_at_most 41) fifteen 75 ≡ none_fits
  -- a section that has no room for an event, and one that has none at all
  pub no_event : room_in (sections_of_at_most 29) (plain_events 0 0) 0 ≡ none_fits
  pub no_room : room_in (sections_of_at_most 17) (plain_events 0 0) 0 ≡ none_fits
  -- "the start is taken"; in a running programme it is not, and overlap plays no part
  pub taken : room_in short running 100 ≡ none_fits
  pub in_programme : room_in short running 150 ≡ fits_up_to 14
  -- "is past the last segment": the last second of the window, taken and free, and the next
  pub last_taken : room_in short running 5_529_599 ≡ none_fits
  pub last_second : room_in short (plain_events 0 0) 5_529_599 ≡ fits_up_to 14
  pub past_last : room_in short (plain_events 0 0) 5_529_600 ≡ none_fits
  -- nine events in each of segments 1 and 33: with one to a section none fits there, and elsewhere nothing changes
  pub own_unpackable : room_in (sections_of_at_most 32) crowded 10_900 ≡ none_fits
  pub own_last_second : room_in (sections_of_at_most 32) crowded 21_599 ≡ none_fits
  pub other_unpackable : room_in (sections_of_at_most 32) crowded 356_500 ≡ none_fits
  pub elsewhere : room_in (sections_of_at_most 32) crowded 21_600 ≡ fits_up_to 2
  pub before_segment : room_in (sections_of_at_most 32) crowded 10_799 ≡ fits_up_to 2
  -- chains are those of the record's pool; a record behind the count is none of the list's
  pub series_chains : room_in short series_full 80 ≡ none_fits
  pub behind_count : room_in short fewer_counted 5_529_599 ≡ fits_up_to 14
  -- a list at its limit of 18 events answers, too
  pub full_list_holds : room_in short (plain_events 0 18) 10_800 ≡ fits_up_to 14
  -- "An unsound list answers 12", ahead of a start that is taken or past the end
  pub unsound_list : room_in short unsound 5 ≡ refused12
  pub unsound_taken : room_in short unsound 0 ≡ refused12
  pub unsound_past : room_in short unsound 5_529_600 ≡ refused12
  pub over_limit : room_in short (plain_events 0 19) 10_800 ≡ refused12
