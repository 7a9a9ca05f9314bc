-- The ranges of a record's values, of the base day, of a time's digits and of the version (01, "Event record and sound
-- list", "The file of sections"). Assumes nothing.
use Rattle.std.specs.Prelude.{ℕ}

-- id (at most 65,535)
abbrev pub id_max : ℕ
id_max = 65_535

-- start (seconds after t0, below 5,529,600)
abbrev pub window_seconds : ℕ
window_seconds = 5_529_600

-- duration (seconds, 1 to 359,999)
abbrev pub duration_min : ℕ
duration_min = 1

abbrev pub duration_max : ℕ
duration_max = 359_999

-- marks (0 to 7)
abbrev pub marks_max : ℕ
marks_max = 7

-- 01's term: base day. A Modified Julian Date of 0 to 65,472
abbrev pub base_day_max : ℕ
base_day_max = 65_472

-- start hours are at most 23, duration hours at most 99, minutes and seconds at most 59
abbrev pub start_hours_max : ℕ
start_hours_max = 23

abbrev pub duration_hours_max : ℕ
duration_hours_max = 99

abbrev pub minutes_max : ℕ
minutes_max = 59

abbrev pub seconds_max : ℕ
seconds_max = 59

-- version (5 bits, 0 to 31)
abbrev pub version_max : ℕ
version_max = 31
