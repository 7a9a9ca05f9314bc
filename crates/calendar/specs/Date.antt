-- The date of a Modified Julian Date (EN 300 468, annex C): the annex's formulas in whole numbers, each decimal
-- fraction taken away by a factor. Laws: proofs/CalendarLaws.antt. Assumes nothing.
use Rattle.std.specs.Prelude.{ℕ, ◌+◌, ◌-◌, ◌*◌, ◌/◌, ◌&&◌, ◌||◌, eqb, leb, if◌then◌else◌, Option}
use Rattle.std.specs.Bool.{then_some}
use Rattle.calendar.specs.declared.Date.{Date}

-- where the formulas hold: from 1900-03-01 to 2100-02-28
abbrev pub first_day : ℕ
first_day = 15_079

abbrev pub last_day : ℕ
last_day = 88_127

-- Y' = int [ (MJD − 15 078,2) / 365,25 ]: by twenty
abbrev pub years_in : ℕ → ℕ
years_in mjd = (mjd * 20 - 301_564) / 7_305

-- MJD − int (Y' × 365,25)
abbrev pub days_in : ℕ → ℕ
days_in mjd = mjd - years_in mjd * 1_461 / 4

-- M' = int { [ MJD − 14 956,1 − int (Y' × 365,25) ] / 30,6001 }: of those days, by ten thousand
abbrev pub months_in : ℕ → ℕ
months_in days = (days * 10_000 - 149_561_000) / 306_001

-- D = MJD − 14 956 − int (Y' × 365,25) − int (M' × 30,6001)
abbrev pub day_of : ℕ → ℕ
day_of days = days - 14_956 - months_in days * 306_001 / 10_000

-- K = 1 if M' = 14 or M' = 15, else K = 0
abbrev pub later_year : ℕ → ℕ
later_year months = if eqb months 14 || eqb months 15 then 1 else 0

-- Y = Y' + K, in years from 1900 on; M = M' − 1 − K × 12
abbrev pub date_by : ℕ → ℕ → ℕ → ℕ → Date
date_by years months day k = record { year = 1_900 + years + k; month = months - 1 - k * 12; day = day }

abbrev pub date_within : ℕ → Date
date_within mjd =
    let days = days_in mjd in
    let months = months_in days in
    date_by (years_in mjd) months (day_of days) (later_year months)

-- the date of a day; outside the range, none
unfoldable pub date_of : ℕ → Option Date
date_of mjd = then_some (leb first_day mjd && leb mjd last_day) (date_within mjd)
