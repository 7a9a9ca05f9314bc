-- Some dates, computed; and each day of the annex's range but the first has the date after that of the day before, by a
-- computed test of every day. Assumes nothing.
use Prim.Native.Nat.{ℕ, zero, suc, ◌+◌, ◌-◌, ◌<◌}
use mathlib.Core.Bool.{Bool, true, ◌&&◌}
use mathlib.Core.Path.{◌≡◌, refl, ap}
use native.Mathlib.Omega.{arith}
use lib.Dec.{T, eqb}
use Rattle.std.specs.Prelude.{Some}
use Rattle.std.proofs.lemmas.Bool.Decides.{nat_tests}
use borrow.Author.Tests.{le-leb}
use Rattle.calendar.specs.Date.{first_day, last_day, date_within, date_of}
use Rattle.calendar.specs.Calendar.{next_date, Dates, FollowsOn}
use Rattle.calendar.specs.declared.Date.{Date}

pub dates : Dates
unfolding date_of
dates =
    record {
      example = refl;
      paper = refl;
      first = refl;
      last = refl;
      before = refl;
      after = refl;
      leap = refl;
      leap_next = refl;
      no_leap = refl;
      year_end = refl;
      year_first = refl;
      most = refl;
    }

-- ---- day after day

is_same : Date → Date → Bool
is_same a b = eqb a.year b.year && (eqb a.month b.month && eqb a.day b.day)

is_followed : ℕ → Bool
is_followed mjd = is_same (date_within (mjd + 1)) (next_date (date_within mjd))

-- each of n days from one on
are_followed : ℕ → ℕ → Bool
are_followed zero mjd = true
are_followed (suc n) mjd = is_followed mjd && are_followed n (suc mjd)

-- forty years, less two days the last time
followed_1 : T (are_followed 14_610 15_079)
unfolding are_followed is_followed is_same
followed_1 = tt

followed_2 : T (are_followed 14_610 29_689)
unfolding are_followed is_followed is_same
followed_2 = tt

followed_3 : T (are_followed 14_610 44_299)
unfolding are_followed is_followed is_same
followed_3 = tt

followed_4 : T (are_followed 14_610 58_909)
unfolding are_followed is_followed is_same
followed_4 = tt

followed_5 : T (are_followed 14_608 73_519)
unfolding are_followed is_followed is_same
followed_5 = tt

followed_joined : (m n mjd : ℕ) → T (are_followed m mjd) → T (are_followed n (mjd + m)) → T (are_followed (m + n) mjd)
unfolding are_followed
followed_joined zero n mjd first second = grind (arith, nat_tests)
followed_joined (suc m) n mjd first second =
    let sum : suc m + n ≡ suc (m + n) = omega arith in
    let place : mjd + suc m ≡ suc mjd + m = omega arith in
    rw sum (grind (arith, nat_tests, followed_joined m n (suc mjd)))

all_followed : T (are_followed 73_048 15_079)
all_followed =
    followed_joined 14_610 58_438 15_079 followed_1
    (followed_joined 14_610 43_828 29_689 followed_2
    (followed_joined 14_610 29_218 44_299 followed_3 (followed_joined 14_610 14_608 58_909 followed_4 followed_5)))

followed_at : (n mjd k : ℕ) → T (are_followed n mjd) → k < n → T (is_followed (mjd + k))
unfolding are_followed
followed_at zero mjd k all less = absurd (omega arith)
followed_at (suc n) mjd zero all less = grind (arith, nat_tests)
followed_at (suc n) mjd (suc k) all less = grind (arith, nat_tests, followed_at n (suc mjd) k)

same_date : (a b : Date) → T (is_same a b) → a ≡ b
unfolding is_same
same_date a b t = grind (arith, nat_tests)

pub follows_on : FollowsOn
unfolding is_followed date_of
follows_on mjd least less =
    let place : 15_079 + (mjd - 15_079) ≡ mjd = omega arith in
    let followed : T (is_followed mjd) =
    rw place at (followed_at 73_048 15_079 (mjd - 15_079) all_followed (omega arith)) in
    rw (le-leb first_day (mjd + 1) (omega arith), le-leb (mjd + 1) last_day (omega arith))
    (ap Some (same_date (date_within (mjd + 1)) (next_date (date_within mjd)) followed))
