-- Rolls computed in raw numbers: what leaves, what stays, which refusal comes first, and the event bytes of sections
-- (02, W-205). The value is in proofs/Examples.antt. Assumes nothing.
use Rattle.std.specs.Prelude.{ℕ, ◌≡◌, List, [], ◌∷◌, ◌++◌, replicate}
use Rattle.eit.specs.Sizes.{broadcast, cable}
use Rattle.eit.specs.declared.Sizes.{Sizes}
use Rattle.eit.specs.Pools.{Pools}
use Rattle.eit.specs.Records.{EventList}
use Rattle.sections.specs.Files.{event_at, no_descriptors}
use Rattle.schedule.specs.Build.{build, file_of}
use Rattle.schedule.specs.ExampleCalls.{identity_with}
use Rattle.schedule.specs.RebuildLists.{event_on, night_rival}
use Rattle.window.specs.Roll.{Rolled, roll, rolls}
use Rattle.window.specs.KthSection.{kth_event_bytes}

-- pools with one descriptor, behind a byte that belongs to none
abbrev pub pools : Pools
pools = record { day = 0xEE ∷ 0x4D ∷ 0x01 ∷ 0x41 ∷ []; series = [] }

abbrev pub list_of : List ℕ → ℕ → EventList
list_of buffer count = record { buffer = buffer; count = count }

-- what a roll returns and leaves, in raw numbers: number, value, base day; buffer, count
abbrev pub left : ℕ → ℕ → ℕ → List ℕ → ℕ → Rolled
left number value base buffer count = record { number = number; value = value; list = list_of buffer count; base = base }

-- in the last second of the first day, and in the first of the second day; behind them two numbers of no record
abbrev pub two_days : List ℕ
two_days = 1 ∷ 86_399 ∷ 1 ∷ 0 ∷ 0 ∷ 0 ∷ 2 ∷ 86_400 ∷ 60 ∷ 5 ∷ 1 ∷ 3 ∷ 7 ∷ 8 ∷ []

-- a programme from 23:30 to 00:30, and one that follows it
abbrev pub over_midnight : List ℕ
over_midnight = 1 ∷ 84_600 ∷ 3_600 ∷ 0 ∷ 0 ∷ 0 ∷ 2 ∷ 88_200 ∷ 60 ∷ 0 ∷ 0 ∷ 0 ∷ []

-- in the first and in the last second of the window
abbrev pub first_and_last : List ℕ
first_and_last = 1 ∷ 0 ∷ 1 ∷ 0 ∷ 0 ∷ 0 ∷ 2 ∷ 5_529_599 ∷ 1 ∷ 0 ∷ 0 ∷ 0 ∷ []

-- not sound: id 1 twice
abbrev pub unsound : List ℕ
unsound = 1 ∷ 0 ∷ 1 ∷ 0 ∷ 0 ∷ 0 ∷ 1 ∷ 86_400 ∷ 1 ∷ 0 ∷ 0 ∷ 0 ∷ []

-- in the last second of the first day, and in the first three of the second day, the first of them with a descriptor
abbrev pub four_events : List ℕ
four_events =
    1 ∷ 86_399 ∷ 1 ∷ 0 ∷ 0 ∷ 0 ∷ 2 ∷ 86_400 ∷ 1 ∷ 0 ∷ 1 ∷ 3
    ∷ 3 ∷ 86_401 ∷ 1 ∷ 0 ∷ 0 ∷ 0 ∷ 4 ∷ 86_402 ∷ 1 ∷ 0 ∷ 0 ∷ 0 ∷ []

-- sections of 45 bytes hold two of its events; at most so many events
abbrev pub short : ℕ → Sizes
short events = record { section_limit = 45; event_limit = events }

-- event bytes in the file that Build writes of a list, under a base day and a version: before a roll, and after it
abbrev pub built_bytes : EventList → ℕ → ℕ → ℕ → ℕ → List ℕ
built_bytes list base version index k =
    kth_event_bytes (file_of (build (short 4) pools list base (identity_with version) (replicate 300 0xAA))) index k

abbrev pub before_bytes : ℕ → ℕ → List ℕ
before_bytes = built_bytes (list_of four_events 4) 49_273 0

abbrev pub after_bytes : ℕ → ℕ → List ℕ
after_bytes =
    let rolled = roll (short 4) pools (list_of four_events 4) 49_273 in built_bytes rolled.list rolled.base 9

pub record Examples : Type 0 where
  -- "Records with start below 86,400 leave, .. freed records become zeros, the base day grows by 1"
  pub day_leaves : roll broadcast pools (list_of two_days 2) 49_273
      ≡ left 0 1 49_274 (2 ∷ 0 ∷ 60 ∷ 5 ∷ 1 ∷ 3 ∷ 0 ∷ 0 ∷ 0 ∷ 0 ∷ 0 ∷ 0 ∷ 7 ∷ 8 ∷ []) 1
  -- "A programme running over midnight leaves with its start"
  pub over_midnight_holds : roll broadcast pools (list_of over_midnight 2) 49_273
      ≡ left 0 1 49_274 (2 ∷ 1_800 ∷ 60 ∷ 0 ∷ 0 ∷ 0 ∷ 0 ∷ 0 ∷ 0 ∷ 0 ∷ 0 ∷ 0 ∷ []) 1
  -- "in order": three stay
  pub in_order : roll (short 4) pools (list_of four_events 4) 49_273
      ≡ left 0 3 49_274
      (2 ∷ 0 ∷ 1 ∷ 0 ∷ 1 ∷ 3 ∷ 3 ∷ 1 ∷ 1 ∷ 0 ∷ 0 ∷ 0 ∷ 4 ∷ 2 ∷ 1 ∷ 0 ∷ 0 ∷ 0 ∷ 0 ∷ 0 ∷ 0 ∷ 0 ∷ 0 ∷ 0 ∷ []) 3
  -- the empty list rolls
  pub empty : roll cable pools (list_of (7 ∷ 8 ∷ []) 0) 0 ≡ left 0 0 1 (7 ∷ 8 ∷ []) 0
  -- the last second of the window stays for 63 rolls, and leaves with the 64th
  pub rolls_63 : rolls broadcast pools (list_of first_and_last 2) 65_408 63
      ≡ left 0 1 65_471 (2 ∷ 86_399 ∷ 1 ∷ 0 ∷ 0 ∷ 0 ∷ 0 ∷ 0 ∷ 0 ∷ 0 ∷ 0 ∷ 0 ∷ []) 1
  pub rolls_64 : rolls broadcast pools (list_of first_and_last 2) 65_408 64 ≡ left 0 0 65_472 (replicate 12 0) 0
  -- no roll leaves all
  pub rolls_0 : rolls broadcast pools (list_of two_days 2) 49_273 0 ≡ left 0 2 49_273 two_days 2
  -- "31, base day already 65,472 or more": base day 65,471 rolls
  pub last_day_holds : roll broadcast pools (list_of two_days 2) 65_471
      ≡ left 0 1 65_472 (2 ∷ 0 ∷ 60 ∷ 5 ∷ 1 ∷ 3 ∷ 0 ∷ 0 ∷ 0 ∷ 0 ∷ 0 ∷ 0 ∷ 7 ∷ 8 ∷ []) 1
  pub past_last : roll broadcast pools (list_of two_days 2) 65_472 ≡ left 31 0 65_472 two_days 2
  pub far_past : roll broadcast pools (list_of two_days 2) 65_473 ≡ left 31 0 65_473 two_days 2
  -- "it comes first": an unsound list answers 31, too, and else 12
  pub first_31 : roll broadcast pools (list_of unsound 2) 65_472 ≡ left 31 0 65_472 unsound 2
  pub first_31_past : roll broadcast pools (list_of unsound 2) 65_473 ≡ left 31 0 65_473 unsound 2
  pub then_12 : roll broadcast pools (list_of unsound 2) 65_471 ≡ left 12 0 65_471 unsound 2
  -- a count above the buffer's records
  pub short_buffer : roll broadcast pools (list_of over_midnight 3) 49_273 ≡ left 12 0 49_273 over_midnight 3
  -- for a caller with at most three events a list of four is unsound
  pub over_limit : roll (short 3) pools (list_of four_events 4) 49_273 ≡ left 12 0 49_273 four_events 4
  -- the k-th section's event bytes, of a rival's file: two sections of segment index 0, and one of 32
  pub kth_first : kth_event_bytes (night_rival 0xC1 0xC1) 0 0 ≡ event_at 1 0x00 0x00
  pub kth_second : kth_event_bytes (night_rival 0xC1 0xC1) 0 1 ≡ event_at 2 0x01 0x00 ++ event_at 3 0x02 0x59
  pub kth_table : kth_event_bytes (night_rival 0xC1 0xC1) 32 0 ≡ event_on 4 0x7D no_descriptors
  -- none of a section or of a segment that the file lacks
  pub kth_lacking : kth_event_bytes (night_rival 0xC1 0xC1) 0 2 ≡ []
  pub segment_lacking : kth_event_bytes (night_rival 0xC1 0xC1) 1 0 ≡ []
  pub past_511 : kth_event_bytes (night_rival 0xC1 0xC1) 512 0 ≡ []
  -- before the roll and after it: day 49,274 is 0xC07A
  pub first_before : before_bytes 8 0
      ≡ event_on 2 0x7A (0x00 ∷ 0x03 ∷ 0x4D ∷ 0x01 ∷ 0x41 ∷ [])
      ++ (0x00 ∷ 0x03 ∷ 0xC0 ∷ 0x7A ∷ 0x00 ∷ 0x00 ∷ 0x01 ∷ 0x00 ∷ 0x00 ∷ 0x01 ∷ no_descriptors)
  pub first_after : after_bytes 0 0
      ≡ event_on 2 0x7A (0x00 ∷ 0x03 ∷ 0x4D ∷ 0x01 ∷ 0x41 ∷ [])
      ++ (0x00 ∷ 0x03 ∷ 0xC0 ∷ 0x7A ∷ 0x00 ∷ 0x00 ∷ 0x01 ∷ 0x00 ∷ 0x00 ∷ 0x01 ∷ no_descriptors)
  pub second_before : before_bytes 8 1
      ≡ 0x00 ∷ 0x04 ∷ 0xC0 ∷ 0x7A ∷ 0x00 ∷ 0x00 ∷ 0x02 ∷ 0x00 ∷ 0x00 ∷ 0x01 ∷ no_descriptors
  pub second_after : after_bytes 0 1
      ≡ 0x00 ∷ 0x04 ∷ 0xC0 ∷ 0x7A ∷ 0x00 ∷ 0x00 ∷ 0x02 ∷ 0x00 ∷ 0x00 ∷ 0x01 ∷ no_descriptors
  -- the segment before has one section, and the next sections are not its second
  pub second_lacking : before_bytes 7 1 ≡ []
