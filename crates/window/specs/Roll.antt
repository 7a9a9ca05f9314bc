-- The roll to the next base day as one total function of list, pools and base day (02, W-205), and n rolls in a row.
-- Laws: proofs/Roll.antt, proofs/Rolls.antt. Assumes nothing.
use Rattle.std.specs.Prelude.{ℕ, zero, suc, ◌+◌, ◌-◌, ◌*◌, true, false, List, [], ◌∷◌, ◌++◌, map, ltb, length, replicate}
use Rattle.eit.specs.declared.Sizes.{Sizes}
use Rattle.eit.specs.Limits.{base_day_max}
use Rattle.eit.specs.Time.{seconds_of_day}
use Rattle.eit.specs.Overwrite.{overwrite}
use Rattle.eit.specs.Pools.{Pools}
use Rattle.eit.specs.Records.{EventList, record_size, records_of, numbers_of_all}
use Rattle.eit.specs.Sound.{sound}
use Rattle.eit.specs.declared.Record.{Record}

-- the records that do not start before `seconds`, in their order
abbrev pub starting_from : ℕ → List Record → List Record
starting_from seconds [] = []
starting_from seconds (r ∷ rs) =
    elim (ltb r.start seconds) [ true ↦ starting_from seconds rs | false ↦ r ∷ starting_from seconds rs ]

-- a record with `seconds` taken off its start
abbrev pub earlier_by : ℕ → Record → Record
earlier_by seconds r =
    record {
      id = r.id;
      start = r.start - seconds;
      duration = r.duration;
      marks = r.marks;
      offset = r.offset;
      chain_length = r.chain_length;
    }

-- the records that start at `seconds` or later, with their starts counted from there
abbrev pub counted_from : ℕ → List Record → List Record
counted_from seconds rs = map (earlier_by seconds) (starting_from seconds rs)

-- "Records with start below 86,400 leave, the others have 86,400 taken off"
unfoldable pub next_day : List Record → List Record
next_day rs = counted_from seconds_of_day rs

-- a list with other records, no more than it has: they stand at the front of its buffer, "freed records become zeros",
-- and all behind them stays
abbrev pub refilled : EventList → List Record → EventList
refilled list rs =
    record {
      buffer = overwrite list.buffer 0 (numbers_of_all rs ++ replicate ((list.count - length rs) * record_size) 0);
      count = length rs;
    }

-- what a roll returns, number and value of the answer, and the list and the base day after it
pub record Rolled : Type 0 where
  pub number : ℕ
  pub value : ℕ
  pub list : EventList
  pub base : ℕ

-- a refusal leaves both
abbrev pub refusal : ℕ → EventList → ℕ → Rolled
refusal number list base = record { number = number; value = 0; list = list; base = base }

-- success: these records are left, under this base day
abbrev pub success : EventList → List Record → ℕ → Rolled
success list rs base = record { number = 0; value = length rs; list = refilled list rs; base = base }

-- "Refused: 31, base day already 65,472 or more; it comes first"; "An unsound list answers 12"; "the base day grows
-- by 1"
unfoldable pub roll : Sizes → Pools → EventList → ℕ → Rolled
unfolding next_day
roll sizes pools list base =
    elim (ltb base base_day_max) [
      | false ↦ refusal 31 list base
      | true ↦ elim (sound sizes pools list) [
        | false ↦ refusal 12 list base
        | true ↦ success list (next_day (records_of list)) (base + 1)
      ]
    ]

-- "n rolls": each of the list and under the base day that the one before it left
unfoldable pub rolls : Sizes → Pools → EventList → ℕ → ℕ → Rolled
unfolding roll
rolls sizes pools list base zero = record { number = 0; value = list.count; list = list; base = base }
rolls sizes pools list base (suc n) =
    let before = rolls sizes pools list base n in
    roll sizes pools before.list before.base
