-- What the bytes of a time show, by the parts that the code reads one after the other: the three bytes of a time, and
-- of a start its day before them. Assumes nothing.
use Prim.Native.Nat.{ℕ, ◌+◌, ◌-◌, ◌*◌, ◌%◌, ◌^◌, ◌≤◌, ◌<◌}
use mathlib.Core.Bool.{false, ◌&&◌}
use mathlib.Core.List.{List}
use mathlib.Core.Logic.{⊎_elim}
use mathlib.Core.Path.{◌≡◌, ap, ◌∙◌}
use native.Mathlib.Omega.{arith}
use borrow.Author.Tests.{le-leb, lt-leb}
use lib.Dec.{T, leb, ltb}
use lib.ListN.{length, take, drop, get_or}
use lib.Seq.{take-take, drop-drop}
use Rattle.std.specs.Prelude.{Some, None}
use Rattle.std.specs.Bool.{then_some}
use Rattle.std.proofs.Common.{Fits, w8}
use Rattle.std.proofs.lemmas.Bool.Decides.{nat_tests}
use Rattle.eit.specs.Limits.{window_seconds, duration_min, duration_max}
use Rattle.eit.specs.Limits.{start_hours_max, duration_hours_max}
use Rattle.eit.specs.Fields.{bytes_at, field}
use Rattle.eit.specs.Time.{time_of, seconds_of_day, is_time, seconds_of, is_duration_bytes, start_of}
use Rattle.eit.specs.Time.{is_start_bytes}
use Rattle.eit.specs.declared.Time.{Time}
use Rattle.eit.proofs.Fields.{bytes_all, field_length}
use Rattle.eit.proofs.Test.{le_or_lt}
use Rattle.eit.proofs.TimeLaws.{time_within, time_above, time_only}
use Rattle.codec.proofs.FieldLaws.{drop_take, field_exact, field_small}
use Rattle.codec_time.specs.TimeRead.{time_at, duration_at, start_at}

-- ---- a field of two bytes

module _ (bs : List ℕ) (at : ℕ) (all : (k : ℕ) → Fits w8 (get_or bs k 0)) where
  pub word_small : field at 2 bs < 2 ^ 16
  word_small = field_small bs at 2 (bytes_all bs (λ k. (all k).fits))

  pub word_exact : field at 2 bs % 2 ^ 32 ≡ field at 2 bs
  word_exact = field_exact bs at 2 (bytes_all bs (λ k. (all k).fits)) (omega arith)

pub ruleset word_laws = (word_small, word_exact)

-- ---- three bytes

-- each part of a time has two digits
pub time_small : (s : ℕ) (t : Time) → t ≡ time_of s → (t.hours < 100) × (t.minutes < 100) × (t.seconds < 100)
time_small s t is =
    ⊎_elim
    (λ within. rw (is, time_within s within) (omega arith))
    (λ above. rw (is, time_above s above) (omega arith))
    (le_or_lt s duration_max)

-- ---- a duration

module _ (at : ℕ) (bs : List ℕ) where
  pub duration_no_time : time_at duration_hours_max at bs ≡ None → duration_at at bs ≡ None
  unfolding time_at duration_at
  duration_no_time none = grind (arith, nat_tests)

  -- a time of up to 99 hours is a duration if it is in range; it is never too long
  pub duration_time : (n : ℕ) → time_at duration_hours_max at bs ≡ Some n
      → duration_at at bs ≡ then_some (leb duration_min n && leb n duration_max) n
  unfolding time_at duration_at
  duration_time n is =
      let three : at + 3 ≤ length bs → length (bytes_at at 3 bs) ≡ 3 = field_length bs at 3 in
      grind (arith, nat_tests, time_only)

  -- what was found in bytes that are there
  pub no_duration : at + 3 ≤ length bs → duration_at at bs ≡ None → is_duration_bytes (bytes_at at 3 bs) ≡ false
  unfolding duration_at
  no_duration fits none = grind (arith, nat_tests)

  pub is_duration : {n : ℕ} → duration_at at bs ≡ Some n
      → T (is_duration_bytes (bytes_at at 3 bs)) × (seconds_of (bytes_at at 3 bs) ≡ n)
  unfolding duration_at
  is_duration {n} found = grind (arith, nat_tests)

-- ---- a start: a day and a time of that day

module _ (base at : ℕ) (bs : List ℕ) where
  pub start_truncated : length bs < at + 5 → start_at base at bs ≡ None
  unfolding start_at
  start_truncated truncated = rw (lt-leb (at + 5) (length bs) truncated)

  day_of_holds : take 2 (bytes_at at 5 bs) ≡ bytes_at at 2 bs
  day_of_holds = take-take 2 5 (drop at bs) (omega arith)

  time_of_holds : drop 2 (bytes_at at 5 bs) ≡ bytes_at (at + 2) 3 bs
  time_of_holds = drop_take 2 5 (drop at bs) ∙ ap (take 3) (drop-drop 2 at bs)

  -- the test and the seconds, by the day and the time
  start_parts : at + 5 ≤ length bs
      → start_at base at bs
      ≡ then_some
      (is_time start_hours_max (bytes_at (at + 2) 3 bs)
      && (leb base (field at 2 bs)
      && ltb ((field at 2 bs - base) * seconds_of_day + seconds_of (bytes_at (at + 2) 3 bs)) window_seconds))
      ((field at 2 bs - base) * seconds_of_day + seconds_of (bytes_at (at + 2) 3 bs))
  unfolding start_at
  start_parts fits = rw (le-leb (at + 5) (length bs) fits, day_of_holds, time_of_holds)

  module _ (fits : at + 5 ≤ length bs) where
    pub start_no_time : time_at start_hours_max (at + 2) bs ≡ None → start_at base at bs ≡ None
    unfolding time_at
    start_no_time none = grind (arith, nat_tests, start_parts)

    -- a time that was read, behind its day
    module _ {n : ℕ} (is-time : time_at start_hours_max (at + 2) bs ≡ Some n) where
      start_read : start_at base at bs
          ≡ then_some (leb base (field at 2 bs) && ltb ((field at 2 bs - base) * seconds_of_day + n) window_seconds)
          ((field at 2 bs - base) * seconds_of_day + n)
      unfolding time_at
      start_read = grind (arith, nat_tests, start_parts)

      pub start_early : field at 2 bs < base → start_at base at bs ≡ None
      start_early early = grind (arith, nat_tests, start_read)

      pub start_late : base ≤ field at 2 bs → window_seconds ≤ (field at 2 bs - base) * seconds_of_day + n
          → start_at base at bs ≡ None
      start_late later late = grind (arith, nat_tests, start_read)

      pub start_shown : base ≤ field at 2 bs → (field at 2 bs - base) * seconds_of_day + n < window_seconds
          → start_at base at bs ≡ Some ((field at 2 bs - base) * seconds_of_day + n)
      start_shown later soon = grind (arith, nat_tests, start_read)

  -- what was found in bytes that are there
  pub no_start : at + 5 ≤ length bs → start_at base at bs ≡ None → is_start_bytes base (bytes_at at 5 bs) ≡ false
  unfolding start_at
  no_start fits none = grind (arith, nat_tests)

  pub is_start : {n : ℕ} → start_at base at bs ≡ Some n
      → T (is_start_bytes base (bytes_at at 5 bs)) × (start_of base (bytes_at at 5 bs) ≡ n)
  unfolding start_at
  is_start {n} found = grind (arith, nat_tests)

pub ruleset duration_laws = (duration_no_time, duration_time)

pub ruleset start_laws = (word_exact, start_truncated, start_no_time, start_early, start_late, start_shown)
