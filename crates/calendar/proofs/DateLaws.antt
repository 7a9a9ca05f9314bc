-- How large the numbers of the annex's formulas are, so that K is a quotient too; and which days have a date.
-- Assumes nothing.
use Prim.Native.Nat.{ℕ, ◌+◌, ◌*◌, ◌/◌, ◌≤◌, ◌<◌}
use mathlib.Core.Bool.{Bool, ◌&&◌, ◌||◌}
use mathlib.Core.Logic.{⊎_elim}
use mathlib.Core.Path.{◌≡◌, sym, ap, ap₂, ◌∙◌}
use native.Mathlib.Omega.{arith}
use lib.Dec.{eqb, leb}
use borrow.Author.Tests.{le-leb, lt-leb, eq-eqb, ne_eqb}
use Rattle.std.specs.Prelude.{Option, Some, None, if◌then◌else◌}
use Rattle.std.specs.Bool.{then_some}
use Rattle.eit.proofs.Test.{le_or_lt}
use Rattle.calendar.specs.Date.{first_day, last_day, years_in, days_in, months_in, later_year}
use Rattle.calendar.specs.Date.{date_within, date_of}
use Rattle.calendar.specs.declared.Date.{Date}

-- ---- the numbers

days_most : (mjd : ℕ) → first_day ≤ mjd → days_in mjd ≤ 15_444
days_most mjd least = let high : mjd * 20 < years_in mjd * 7_305 + 7_305 + 301_564 = omega arith in omega arith

pub months_most : (mjd : ℕ) → first_day ≤ mjd → months_in (days_in mjd) ≤ 15
months_most mjd least = omega (arith, days_most mjd least)

abbrev one_if_either : Bool → Bool → ℕ
one_if_either a b = if a || b then 1 else 0

-- K
pub later_is : (months : ℕ) → months ≤ 15 → months / 14 ≡ later_year months
later_is months most =
    ⊎_elim
    (λ (low : months ≤ 13).
    let none : months / 14 ≡ 0 = omega arith in
    none ∙ sym (ap₂ one_if_either (ne_eqb months 14 (λ e. omega arith)) (ne_eqb months 15 (λ e. omega arith))))
    (λ (high : 13 < months).
    let one : months / 14 ≡ 1 = omega arith in
    ⊎_elim
    (λ (january : months ≤ 14).
    one ∙ sym (ap (λ (a : Bool). one_if_either a (eqb months 15)) (eq-eqb months 14 (omega arith))))
    (λ (february : 14 < months).
    one ∙ sym (ap₂ one_if_either (ne_eqb months 14 (λ e. omega arith)) (eq-eqb months 15 (omega arith))))
    (le_or_lt months 14))
    (le_or_lt months 13)

-- ---- the range

module _ (mjd : ℕ) where
  abbrev dated_if_both : Bool → Bool → Option Date
  dated_if_both a b = then_some (a && b) (date_within mjd)

  pub date_inside : first_day ≤ mjd → mjd ≤ last_day → date_of mjd ≡ Some (date_within mjd)
  unfolding date_of
  date_inside least most = ap₂ dated_if_both (le-leb first_day mjd least) (le-leb mjd last_day most)

  pub date_before : mjd < first_day → date_of mjd ≡ None
  unfolding date_of
  date_before early = ap (λ (a : Bool). dated_if_both a (leb mjd last_day)) (lt-leb first_day mjd early)

  pub date_after : last_day < mjd → date_of mjd ≡ None
  unfolding date_of
  date_after late = ap₂ dated_if_both (le-leb first_day mjd (omega arith)) (lt-leb mjd last_day late)
