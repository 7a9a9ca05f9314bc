-- Lists to compute with, for specs/Examples.antt, specs/Answers.antt and the tables of crate samples_proved. Events
-- last a second, so that in a sound one none overlaps the next. Assumes nothing.
use Rattle.std.specs.Prelude.{ℕ, zero, suc, List, [], ◌∷◌, length}
use Rattle.eit.specs.Pools.{Pools}
use Rattle.eit.specs.Records.{EventList, numbers_of_all}
use Rattle.eit.specs.declared.Record.{Record}

-- n numbers from `least` on; apart from `each`, which Build and Plan use
unfoldable pub row : ℕ → ℕ → List ℕ
row least zero = []
row least (suc n) = least ∷ row (suc least) n

-- an event with the first bytes of its pool: the day pool under marks 0, the series pool under marks 2
abbrev pub event_record : ℕ → ℕ → ℕ → ℕ → Record
event_record id start marks size =
    record { id = id; start = start; duration = 1; marks = marks; offset = 0; chain_length = size }

-- events at these starts, with ids from `id` on and chains of `size` bytes in the day pool
abbrev pub starting : ℕ → ℕ → List ℕ → List Record
starting id size [] = []
starting id size (start ∷ starts) = event_record id start 0 size ∷ starting (suc id) size starts

-- what Build and Plan are lent: pools and a list
pub record Case : Type 0 where
  pub pools : Pools
  pub list : EventList

-- a day pool, a series pool, and records in a buffer that is just long enough
abbrev pub case_of : List ℕ → List ℕ → List Record → Case
case_of day series rs =
    record {
      pools = record { day = day; series = series };
      list = record { buffer = numbers_of_all rs; count = length rs };
    }

-- events at these starts, each with this chain
abbrev pub chained : List ℕ → List ℕ → Case
chained chain starts = case_of chain [] (starting 1 (length chain) starts)

-- n events without descriptors, a second apart from `start` on
abbrev pub plain_events : ℕ → ℕ → Case
plain_events start n = chained [] (row start n)

-- four events in segment 0 of table 0x50, none in segment 1, one in segment 2; none in table 0x51; one in segment 1
-- of table 0x52
abbrev pub gap : Case
gap = chained [] (0 ∷ 1 ∷ 2 ∷ 3 ∷ 21_600 ∷ 702_000 ∷ [])

-- nine events in segment index 1, and nine in 33
abbrev pub crowded : Case
crowded =
    chained []
    (10_800 ∷ 10_801 ∷ 10_802 ∷ 10_803 ∷ 10_804 ∷ 10_805 ∷ 10_806 ∷ 10_807 ∷ 10_808
    ∷ 356_400 ∷ 356_401 ∷ 356_402 ∷ 356_403 ∷ 356_404 ∷ 356_405 ∷ 356_406 ∷ 356_407 ∷ 356_408 ∷ [])

-- an event with a chain of two bytes
abbrev pub described : Case
described = chained (0x4D ∷ 0x00 ∷ []) (0 ∷ [])

-- and one without descriptors behind it: 26 bytes together
abbrev pub uneven : Case
uneven = case_of (0x4D ∷ 0x00 ∷ []) [] (event_record 1 0 0 2 ∷ event_record 2 1 0 0 ∷ [])

-- an unsound list, two events with one start
abbrev pub unsound : Case
unsound = chained (0x4D ∷ 0x00 ∷ []) (0 ∷ 0 ∷ [])
