-- What W-205 claims of the roll (02, "Midnight"), each clause above its theorem: one record type. The value is
-- `midnight` of proofs/Midnight.antt. A list need not be sound where nothing says so. Assumes nothing.
use Rattle.std.specs.Prelude.{◌≡◌, not, List, [], ◌++◌, ℕ, ◌+◌, ◌-◌, ◌*◌, ◌≤◌, ◌<◌, T, length, drop, replicate}
use Rattle.eit.specs.Sizes.{sizes_of}
use Rattle.eit.specs.declared.Sizes.{Sizes}
use Rattle.eit.specs.declared.Caller.{Caller}
use Rattle.eit.specs.Pools.{Pools}
use Rattle.eit.specs.Records.{EventList, record_size, records_of, numbers_of_all}
use Rattle.eit.specs.Sound.{sound}
use Rattle.eit.specs.declared.Identity.{Identity}
use Rattle.sections.specs.Rules.{IdentityRules}
use Rattle.schedule.specs.Build.{Built, build, file_of}
use Rattle.schedule.specs.Given.{Given, built}
use Rattle.window.specs.Roll.{counted_from, Rolled, refilled, roll, rolls}
use Rattle.window.specs.KthSection.{kth_event_bytes}

module _ {sizes : Sizes} where
  -- the roll of the list that Build is given
  abbrev pub rolled : Given sizes → Rolled
  rolled g = roll sizes g.pools g.list g.base

  -- Build after it: of the list and under the base day that it left, under any identity
  abbrev pub built_after : Given sizes → Identity → List ℕ → Built
  built_after g identity output =
      build sizes g.pools (rolled g).list (rolled g).base identity output

pub record MidnightFor (sizes : Sizes) : Type 0 where
  -- "Refused: 31, base day already 65,472 or more; it comes first": list, count and base day stay
  pub last_base_day : (pools : Pools) (list : EventList) (base : ℕ) → 65_472 ≤ base
      → roll sizes pools list base ≡ record { number = 31; value = 0; list = list; base = base }
  -- "An unsound list answers 12": they stay
  pub unsound : (pools : Pools) (list : EventList) (base : ℕ) → base < 65_472 → T (not (sound sizes pools list))
      → roll sizes pools list base ≡ record { number = 12; value = 0; list = list; base = base }
  -- a roll of a sound list leaves a sound list
  pub keeps_sound : (pools : Pools) (list : EventList) (base : ℕ) → T (sound sizes pools list)
      → T (sound sizes pools (roll sizes pools list base).list)
  -- "For every n that stays in range, n rolls from a sound list keep exactly the records whose start was at least
  -- 86,400 × n, in order, each shifted by that much". None is refused, as every smaller n is in range, too ..
  pub n_rolls : (pools : Pools) (list : EventList) (base n : ℕ) → base + n ≤ 65_472 → T (sound sizes pools list)
      → let stay = counted_from (86_400 * n) (records_of list) in
      rolls sizes pools list base n
      ≡ record { number = 0; value = length stay; list = refilled list stay; base = base + n }
  -- .. which are the records that the list then has; and in the buffer they stand at the front, behind them zeros up to
  -- the end of the first list's records, and then what stood there
  pub n_rolls_records : (pools : Pools) (list : EventList) (base n : ℕ) → base + n ≤ 65_472
      → T (sound sizes pools list)
      → records_of (rolls sizes pools list base n).list ≡ counted_from (86_400 * n) (records_of list)
  pub n_rolls_buffer : (pools : Pools) (list : EventList) (base n : ℕ) → base + n ≤ 65_472
      → T (sound sizes pools list)
      → let stay = counted_from (86_400 * n) (records_of list) in
      (rolls sizes pools list base n).list.buffer
      ≡ numbers_of_all stay
      ++ replicate ((list.count - length stay) * record_size) 0
      ++ drop (list.count * record_size) list.buffer
  -- and 64 rolls leave none, whatever the sound list
  pub all_left : (pools : Pools) (list : EventList) (base : ℕ) → base ≤ 65_408 → T (sound sizes pools list)
      → records_of (rolls sizes pools list base 64).list ≡ []
  -- "Where Build writes the list before and after a roll, each under its base day, the k-th section of every segment
  -- holds the same event bytes as the k-th of the segment eight indexes later did before", under any two identities.
  -- A segment has eight sections at most
  pub same_event_bytes : (g : Given sizes) (identity : Identity) (output other : List ℕ) → g.base < 65_472
      → IdentityRules identity → (built g output).number ≡ 0 → (built_after g identity other).number ≡ 0
      → (index k : ℕ) → k < 8
      → kth_event_bytes (file_of (built_after g identity other)) index k
      ≡ kth_event_bytes (file_of (built g output)) (index + 8) k
  -- "past 511 none": before a roll, so of the last eight segments after it
  pub past_511 : (g : Given sizes) (output : List ℕ) → (built g output).number ≡ 0 → (index k : ℕ) → 512 ≤ index → k < 8
      → kth_event_bytes (file_of (built g output)) index k ≡ []
  -- Build that wrote before a roll, or would have with a longer output, says neither 1 nor 12 nor 10 after it, whatever
  -- else it is given
  pub builds_after : (g : Given sizes) (identity : Identity) (output other : List ℕ) → g.base < 65_472
      → ((built g output).number ≡ 10 → ⊥)
      → let b = built_after g identity other in
      (b.number ≡ 1 → ⊥) × (b.number ≡ 12 → ⊥) × (b.number ≡ 10 → ⊥)

-- 02, W-206: "A claim over several calls has one caller."
abbrev pub Midnight : Type 0
Midnight = (caller : Caller) → MidnightFor (sizes_of caller)
