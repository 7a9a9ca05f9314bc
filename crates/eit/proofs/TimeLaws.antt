-- Seconds in range come back from their bytes, and bytes that pass the test are those of the seconds that they show:
-- two digits by arithmetic, a time as three pairs of digits, a start as a day and a time of that day. Assumes nothing.
use Prim.Native.Nat.{ℕ, ◌+◌, ◌-◌, ◌*◌, ◌/◌, ◌%◌, ◌≤◌, ◌<◌}
use mathlib.Core.Bool.{Bool, true, false, ◌&&◌}
use mathlib.Core.List.{List, [], ◌∷◌, ◌++◌}
use mathlib.Core.Logic.{⊎_elim}
use mathlib.Core.Path.{◌≡◌, refl, ap, ◌∙◌}
use native.Mathlib.Omega.{arith}
use borrow.Author.Tests.{le-leb, lt-leb}
use lib.Dec.{T, leb, ltb, leb→le, le→leb, ltb→lt, lt→ltb}
use lib.ListN.{length}
use Rattle.eit.specs.Fields.{Bytes, big_endian, value_of}
use Rattle.eit.specs.Limits.{window_seconds, duration_min, duration_max, base_day_max}
use Rattle.eit.specs.Limits.{start_hours_max, duration_hours_max, minutes_max, seconds_max}
use Rattle.eit.specs.Time.{time_of, to_bcd, time_bytes, duration_bytes, seconds_of_day, start_bytes}
use Rattle.eit.specs.Time.{is_bcd, of_bcd, is_bcd_up_to, is_time, seconds_of, is_duration_bytes, start_of, is_start_bytes}
use Rattle.eit.specs.declared.Time.{Time}
use Rattle.eit.proofs.Test.{and_both, and_parts, le_or_lt}
use Rattle.eit.proofs.Fields.{value_back, big_endian_value}

-- ---- two digits in a byte

pub bcd_back : (n : ℕ) → n < 100 → of_bcd (to_bcd n) ≡ n
bcd_back n few = omega arith

pub bcd_digits : (n : ℕ) → n < 100 → T (is_bcd (to_bcd n))
bcd_digits n few =
    let high : to_bcd n / 16 ≤ 9 = omega arith in
    let low : to_bcd n % 16 ≤ 9 = omega arith in
    and_both (leb (to_bcd n / 16) 9) (leb (to_bcd n % 16) 9) (le→leb _ _ high) (le→leb _ _ low)

pub bcd_byte : (n : ℕ) → n < 100 → to_bcd n < 256
bcd_byte n few = omega arith

pub bcd_only : (b : ℕ) → T (is_bcd b) → (to_bcd (of_bcd b) ≡ b) × (of_bcd b < 100)
bcd_only b t =
    let (high, low) = and_parts (leb (b / 16) 9) (leb (b % 16) 9) t in
    omega (arith, leb→le (b / 16) 9 high, leb→le (b % 16) 9 low)

up_to : (most n : ℕ) → n ≤ most → n < 100 → T (is_bcd_up_to most (to_bcd n))
up_to most n small few =
    let same : of_bcd (to_bcd n) ≤ most = rw (bcd_back n few) small in
    and_both (is_bcd (to_bcd n)) (leb (of_bcd (to_bcd n)) most) (bcd_digits n few) (le→leb _ _ same)

up_to_only : (most b : ℕ) → T (is_bcd_up_to most b) → (to_bcd (of_bcd b) ≡ b) × (of_bcd b ≤ most) × (of_bcd b < 100)
up_to_only most b t =
    let (digits, small) = and_parts (is_bcd b) (leb (of_bcd b) most) t in
    let (same, few) = bcd_only b digits in
    (same, leb→le (of_bcd b) most small, few)

-- ---- a time, as three pairs of digits

-- the parts of a time below 100 hours
abbrev Shown : Time → Type 0
Shown t = (t.hours < 100) × (t.minutes < 60) × (t.seconds < 60)

module _ (t : Time) (shown : Shown t) where
  shown_bytes : Bytes (time_bytes t)
  shown_bytes =
      let minutes : t.minutes < 100 = omega arith in
      let seconds : t.seconds < 100 = omega arith in
      (bcd_byte t.hours shown.0, (bcd_byte t.minutes minutes, (bcd_byte t.seconds seconds, tt)))

  shown_back : seconds_of (time_bytes t) ≡ t.hours * 3600 + t.minutes * 60 + t.seconds
  shown_back =
      let minutes : t.minutes < 100 = omega arith in
      let seconds : t.seconds < 100 = omega arith in
      rw (bcd_back t.hours shown.0, bcd_back t.minutes minutes, bcd_back t.seconds seconds)

  shown_hours : (h : ℕ) → t.hours ≤ h → T (is_time h (time_bytes t))
  shown_hours h small =
      let first : Bool = is_bcd_up_to h (to_bcd t.hours) in
      let second : Bool = is_bcd_up_to minutes_max (to_bcd t.minutes) in
      let third : Bool = is_bcd_up_to seconds_max (to_bcd t.seconds) in
      let minutes : T second = up_to minutes_max t.minutes (omega arith) (omega arith) in
      let seconds : T third = up_to seconds_max t.seconds (omega arith) (omega arith) in
      and_both first (second && third) (up_to h t.hours small shown.0) (and_both second third minutes seconds)

-- the two cases of `time_of`
pub time_within : (s : ℕ) → s ≤ duration_max
    → time_of s ≡ record { hours = s / 3600; minutes = s / 60 % 60; seconds = s % 60 }
time_within s within = rw (time_of, le-leb s duration_max within)

pub time_above : (s : ℕ) → duration_max < s → time_of s ≡ record { hours = 99; minutes = 59; seconds = 59 }
time_above s above = rw (time_of, lt-leb s duration_max above)

time_shown : (s : ℕ) → Shown (time_of s)
time_shown s =
    ⊎_elim
    (λ within. rw (time_within s within) (omega arith))
    (λ above. rw (time_above s above) (omega arith))
    (le_or_lt s duration_max)

pub time_bytes_holds : (s : ℕ) → Bytes (time_bytes (time_of s))
time_bytes_holds s = shown_bytes (time_of s) (time_shown s)

pub time_back : (s : ℕ) → s ≤ duration_max → seconds_of (time_bytes (time_of s)) ≡ s
time_back s within = shown_back (time_of s) (time_shown s) ∙ rw (time_within s within) (omega arith)

-- a time of day shows at most 23 hours, a duration at most 99
pub time_hours : (h s : ℕ) → s < (h + 1) * 3600 → T (is_time h (time_bytes (time_of s)))
time_hours h s few =
    shown_hours (time_of s) (time_shown s) h
    (⊎_elim
    (λ within. rw (time_within s within) (omega arith))
    (λ above. rw (time_above s above) (omega arith))
    (le_or_lt s duration_max))

-- back from the seconds to the parts
time_parts : (h m s : ℕ) → h < 100 → m < 60 → s < 60
    → time_of (h * 3600 + m * 60 + s) ≡ record { hours = h; minutes = m; seconds = s }
time_parts h m s hs ms ss =
    let hours : (h * 3600 + m * 60 + s) / 3600 ≡ h = omega arith in
    let minutes : (h * 3600 + m * 60 + s) / 60 % 60 ≡ m = omega arith in
    let seconds : (h * 3600 + m * 60 + s) % 60 ≡ s = omega arith in
    time_within (h * 3600 + m * 60 + s) (omega arith)
    ∙ (λ i. record { hours = hours i; minutes = minutes i; seconds = seconds i })

pub time_only : (h : ℕ) (bs : List ℕ) → length bs ≡ 3 → T (is_time h bs)
    → (time_bytes (time_of (seconds_of bs)) ≡ bs) × (seconds_of bs < (h + 1) * 3600)
time_only h [] three t = absurd (omega arith)
time_only h (a ∷ []) three t = absurd (omega arith)
time_only h (a ∷ b ∷ []) three t = absurd (omega arith)
time_only h (a ∷ b ∷ c ∷ []) three t =
    let (first, rest) = and_parts (is_bcd_up_to h a) (is_bcd_up_to minutes_max b && is_bcd_up_to seconds_max c) t in
    let (second, third) = and_parts (is_bcd_up_to minutes_max b) (is_bcd_up_to seconds_max c) rest in
    let (same-a, hours, few) = up_to_only h a first in
    let (same-b, minutes, few-b) = up_to_only minutes_max b second in
    let (same-c, seconds, few-c) = up_to_only seconds_max c third in (
      ap time_bytes (time_parts (of_bcd a) (of_bcd b) (of_bcd c) few (omega arith) (omega arith))
          ∙ (λ i. same-a i ∷ same-b i ∷ same-c i ∷ []),
      omega arith,
    )
time_only h (a ∷ b ∷ c ∷ d ∷ bs) three t = absurd (omega arith)

-- ---- a duration

pub duration_back : (d : ℕ) → d ≤ duration_max → seconds_of (duration_bytes d) ≡ d
duration_back d most = time_back d most

pub duration_is : (d : ℕ) → duration_min ≤ d → d ≤ duration_max → T (is_duration_bytes (duration_bytes d))
duration_is d least most =
    let enough : duration_min ≤ seconds_of (duration_bytes d) = rw (duration_back d most) least in
    and_both (is_time duration_hours_max (duration_bytes d)) (leb duration_min (seconds_of (duration_bytes d)))
    (time_hours duration_hours_max d (omega arith))
    (le→leb _ _ enough)

pub duration_only : (bs : List ℕ) → length bs ≡ 3 → T (is_duration_bytes bs)
    → (duration_bytes (seconds_of bs) ≡ bs) × (duration_min ≤ seconds_of bs) × (seconds_of bs ≤ duration_max)
duration_only bs three t =
    let (time, least) = and_parts (is_time duration_hours_max bs) (leb duration_min (seconds_of bs)) t in
    let (same, few) = time_only duration_hours_max bs three time in
    (same, leb→le duration_min (seconds_of bs) least, omega arith)

-- ---- a start, as a day and a time of that day

pub start_length : (base s : ℕ) → length (start_bytes base s) ≡ 5
start_length base s = refl

pub start_bytes_holds : (base s : ℕ) → Bytes (start_bytes base s)
start_bytes_holds base s = (omega arith, (omega arith, time_bytes_holds (s % seconds_of_day)))

module _ (base s : ℕ) (inside : base ≤ base_day_max) (few : s < window_seconds) where
  start_day : value_of (big_endian 2 (base + s / seconds_of_day)) ≡ base + s / seconds_of_day
  start_day = value_back 2 (base + s / seconds_of_day) (omega arith)

  pub start_back : start_of base (start_bytes base s) ≡ s
  start_back = rw (start_day, time_back (s % seconds_of_day) (omega arith)) (omega arith)

  pub start_is : T (is_start_bytes base (start_bytes base s))
  start_is =
      let time : List ℕ = time_bytes (time_of (s % seconds_of_day)) in
      let day : ℕ = value_of (big_endian 2 (base + s / seconds_of_day)) in
      let start : ℕ = start_of base (start_bytes base s) in
      let later : base ≤ day = rw start_day (omega arith) in
      let soon : start < window_seconds = rw start_back few in
      and_both (is_time start_hours_max time) (leb base day && ltb start window_seconds)
      (time_hours start_hours_max (s % seconds_of_day) (omega arith))
      (and_both (leb base day) (ltb start window_seconds) (le→leb _ _ later) (lt→ltb _ _ soon))

-- back from the seconds to the day and the time of that day
start_parts : (base day rest : ℕ) → base ≤ day → rest < seconds_of_day
    → (base + ((day - base) * seconds_of_day + rest) / seconds_of_day ≡ day)
    × (((day - base) * seconds_of_day + rest) % seconds_of_day ≡ rest)
start_parts base day rest later few = omega arith

pub start_only : (base : ℕ) (bs : List ℕ) → length bs ≡ 5 → Bytes bs → T (is_start_bytes base bs)
    → (start_bytes base (start_of base bs) ≡ bs) × (start_of base bs < window_seconds)
start_only base [] five bytes t = absurd (omega arith)
start_only base (a ∷ []) five bytes t = absurd (omega arith)
start_only base (a ∷ b ∷ bs) five bytes t =
    let day : ℕ = value_of (a ∷ b ∷ []) in
    let start : ℕ = start_of base (a ∷ b ∷ bs) in
    let (time, rest) = and_parts (is_time start_hours_max bs) (leb base day && ltb start window_seconds) t in
    let (later, soon) = and_parts (leb base day) (ltb start window_seconds) rest in
    let (same-time, few) = time_only start_hours_max bs (omega arith) time in
    let (the-day, the-time) = start_parts base day (seconds_of bs) (leb→le base day later) few in (
      (λ i. big_endian 2 (the-day i) ++ time_bytes (time_of (the-time i)))
          ∙ (λ i. big_endian_value (a ∷ b ∷ []) (bytes.0, (bytes.1.0, tt)) i ++ same-time i),
      ltb→lt start window_seconds soon,
    )

-- ---- computed: 1993-10-13 12:45:00 is MJD 49,273 and C0 79 12 45 00; 01:45:30 is 01 45 30; 100 hours show as 99:59:59

pub time_examples :
    (start_bytes 49_273 45_900 ≡ 0xC0 ∷ 0x79 ∷ 0x12 ∷ 0x45 ∷ 0x00 ∷ [])
    × (start_bytes 49_271 (2 * 86_400 + 45_900) ≡ 0xC0 ∷ 0x79 ∷ 0x12 ∷ 0x45 ∷ 0x00 ∷ [])
    × (duration_bytes 6_330 ≡ 0x01 ∷ 0x45 ∷ 0x30 ∷ [])
    × (time_of 360_000 ≡ record { hours = 99; minutes = 59; seconds = 59 })
time_examples = (refl, refl, refl, refl)

-- computed: what is no time. 24 hours, 60 minutes, 60 seconds, a digit above 9; no second; a day before the base day,
-- 64 days after it
pub time_refused :
    (is_time 23 (0x24 ∷ 0x00 ∷ 0x00 ∷ []) ≡ false)
    × (is_time 99 (0x24 ∷ 0x60 ∷ 0x00 ∷ []) ≡ false)
    × (is_time 99 (0x24 ∷ 0x00 ∷ 0x60 ∷ []) ≡ false)
    × (is_time 99 (0x0A ∷ 0x00 ∷ 0x00 ∷ []) ≡ false)
    × (is_time 99 (0x00 ∷ 0xA0 ∷ 0x00 ∷ []) ≡ false)
    × (is_time 99 (0x99 ∷ 0x59 ∷ 0x59 ∷ []) ≡ true)
    × (is_duration_bytes (0x00 ∷ 0x00 ∷ 0x00 ∷ []) ≡ false)
    × (is_start_bytes 49_274 (0xC0 ∷ 0x79 ∷ 0x12 ∷ 0x45 ∷ 0x00 ∷ []) ≡ false)
    × (is_start_bytes 49_209 (0xC0 ∷ 0x79 ∷ 0x12 ∷ 0x45 ∷ 0x00 ∷ []) ≡ false)
    × (is_start_bytes 49_210 (0xC0 ∷ 0x79 ∷ 0x23 ∷ 0x59 ∷ 0x59 ∷ []) ≡ true)
time_refused = (refl, refl, refl, refl, refl, refl, refl, refl, refl, refl)
