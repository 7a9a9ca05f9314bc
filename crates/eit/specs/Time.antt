-- Seconds as BCD digits, the MJD of a start under a base day, and both back (01, "The file of sections", an event's
-- start and duration; "The time type .."). Laws: proofs/TimeLaws.antt. Assumes nothing.
use Rattle.std.specs.Prelude.{ℕ, ◌+◌, ◌-◌, ◌*◌, ◌/◌, ◌%◌, Bool, true, false, ◌&&◌, List, [], ◌∷◌, ◌++◌, leb, ltb, get_or, take, drop}
use Rattle.eit.specs.Fields.{big_endian, value_of}
use Rattle.eit.specs.Limits.{window_seconds, duration_min, duration_max}
use Rattle.eit.specs.Limits.{start_hours_max, duration_hours_max, minutes_max, seconds_max}
use Rattle.eit.specs.declared.Time.{Time}

-- the time type makes itself from seconds; above 359,999 it is 99:59:59
abbrev pub time_of : ℕ → Time
time_of s =
    elim (leb s duration_max) [
      | true ↦ record { hours = s / 3600; minutes = s / 60 % 60; seconds = s % 60 }
      | false ↦ record { hours = duration_hours_max; minutes = minutes_max; seconds = seconds_max }
    ]

-- two BCD digits in a byte
abbrev pub to_bcd : ℕ → ℕ
to_bcd n = n / 10 * 16 + n % 10

-- six BCD digits hhmmss
abbrev pub time_bytes : Time → List ℕ
time_bytes t = to_bcd t.hours ∷ to_bcd t.minutes ∷ to_bcd t.seconds ∷ []

-- duration as six BCD digits
abbrev pub duration_bytes : ℕ → List ℕ
duration_bytes duration = time_bytes (time_of duration)

abbrev pub seconds_of_day : ℕ
seconds_of_day = 86_400

-- start as MJD (2) and six BCD digits hhmmss. 01's term: t0, midnight UTC of the base day
abbrev pub start_bytes : ℕ → ℕ → List ℕ
start_bytes base start = big_endian 2 (base + start / seconds_of_day) ++ time_bytes (time_of (start % seconds_of_day))

-- ---- back

-- both halves of a byte are decimal digits
abbrev pub is_bcd : ℕ → Bool
is_bcd b = leb (b / 16) 9 && leb (b % 16) 9

-- the number that two BCD digits show
abbrev pub of_bcd : ℕ → ℕ
of_bcd b = b / 16 * 10 + b % 16

-- the byte is two BCD digits of a number that is at most `most`
abbrev pub is_bcd_up_to : ℕ → ℕ → Bool
is_bcd_up_to most b = is_bcd b && leb (of_bcd b) most

-- six BCD digits hhmmss, with hours of at most `hoursMax`
abbrev pub is_time : ℕ → List ℕ → Bool
is_time hoursMax bs =
    is_bcd_up_to hoursMax (get_or bs 0 0) && (is_bcd_up_to minutes_max (get_or bs 1 0) && is_bcd_up_to seconds_max (get_or bs 2 0))

-- the seconds of six BCD digits hhmmss
abbrev pub seconds_of : List ℕ → ℕ
seconds_of bs = of_bcd (get_or bs 0 0) * 3600 + of_bcd (get_or bs 1 0) * 60 + of_bcd (get_or bs 2 0)

-- a duration stays in a record's range: its digits show at most 99:59:59
abbrev pub is_duration_bytes : List ℕ → Bool
is_duration_bytes bs = is_time duration_hours_max bs && leb duration_min (seconds_of bs)

-- the seconds after t0 of a start's five bytes; the day comes from its MJD
abbrev pub start_of : ℕ → List ℕ → ℕ
start_of base bs = (value_of (take 2 bs) - base) * seconds_of_day + seconds_of (drop 2 bs)

-- a start stays in a record's range: not before t0, and below 5,529,600
abbrev pub is_start_bytes : ℕ → List ℕ → Bool
is_start_bytes base bs =
    is_time start_hours_max (drop 2 bs) && (leb base (value_of (take 2 bs)) && ltb (start_of base bs) window_seconds)
