-- The Gregorian calendar, and what `date_of` is worth: some days, and that each day has the date after that of the day
-- before. Assumes nothing.
use Rattle.std.specs.Prelude.{ℕ, ◌+◌, ◌-◌, ◌%◌, ◌≤◌, ◌<◌, [], ◌∷◌, Bool, true, false, ◌&&◌, ◌||◌, not, ◌≡◌, eqb, ltb, get_or, Option, Some, None}
use Rattle.calendar.specs.Date.{first_day, last_day, date_within, date_of}
use Rattle.calendar.specs.declared.Date.{Date}

-- ---- the calendar

-- every fourth year, but of the hundreds only every fourth hundred
abbrev pub is_leap : ℕ → Bool
is_leap year = (eqb (year % 4) 0 && not (eqb (year % 100) 0)) || eqb (year % 400) 0

abbrev pub february_of : ℕ → ℕ
february_of year = elim (is_leap year) [ true ↦ 29 | false ↦ 28 ]

-- the days of a month
abbrev pub month_length : ℕ → ℕ → ℕ
month_length year month =
    get_or (31 ∷ february_of year ∷ 31 ∷ 30 ∷ 31 ∷ 30 ∷ 31 ∷ 31 ∷ 30 ∷ 31 ∷ 30 ∷ 31 ∷ []) (month - 1) 0

-- the date after one
abbrev pub next_date : Date → Date
next_date date =
    elim (ltb date.day (month_length date.year date.month)) [
      | true ↦ record { year = date.year; month = date.month; day = date.day + 1 }
      | false ↦
          elim (ltb date.month 12) [
            | true ↦ record { year = date.year; month = date.month + 1; day = 1 }
            | false ↦ record { year = date.year + 1; month = 1; day = 1 }
          ]
    ]

-- each day of the annex's range but the first has the date after that of the day before
abbrev pub FollowsOn : Type 0
FollowsOn = (mjd : ℕ) → first_day ≤ mjd → mjd < last_day → date_of (mjd + 1) ≡ Some (next_date (date_within mjd))

-- ---- some days

abbrev pub on : ℕ → ℕ → ℕ → Option Date
on year month day = Some (record { year = year; month = month; day = day })

pub record Dates : Type 0 where
  -- the annex's own example, and document 01's day
  pub example : date_of 45_218 ≡ on 1982 9 6
  pub paper : date_of 49_273 ≡ on 1993 10 13
  -- the limits, and the day before and after
  pub first : date_of 15_079 ≡ on 1900 3 1
  pub last : date_of 88_127 ≡ on 2100 2 28
  pub before : date_of 15_078 ≡ None
  pub after : date_of 88_128 ≡ None
  -- a leap day, and the turn of a year
  pub leap : date_of 51_603 ≡ on 2000 2 29
  pub leap_next : date_of 51_604 ≡ on 2000 3 1
  pub no_leap : date_of 51_969 ≡ on 2001 3 1
  pub year_end : date_of 51_543 ≡ on 1999 12 31
  pub year_first : date_of 51_544 ≡ on 2000 1 1
  -- the most that a start's two bytes hold
  pub most : date_of 65_535 ≡ on 2038 4 22
