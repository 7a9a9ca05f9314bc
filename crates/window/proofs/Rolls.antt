-- n rolls are one step of n days: each takes a day more off, and fills the same list anew. By induction over n.
-- Assumes nothing.
use mathlib.Core.Path.{◌≡◌, refl, sym, ap, ◌∙◌}
use mathlib.Core.List.{List, [], ◌∷◌, ◌++◌}
use Prim.Native.Nat.{ℕ, zero, suc, ◌+◌, ◌-◌, ◌*◌, ◌≤◌}
use native.Mathlib.Omega.{arith}
use lib.Dec.{T}
use lib.ListN.{length, drop, replicate}
use Rattle.eit.specs.declared.Sizes.{Sizes}
use Rattle.eit.specs.Limits.{base_day_max, window_seconds}
use Rattle.eit.specs.Time.{seconds_of_day}
use Rattle.eit.specs.Pools.{Pools}
use Rattle.eit.specs.Records.{EventList, record_size, records_of, numbers_of_all}
use Rattle.eit.specs.Sound.{all_valid, sound}
use Rattle.eit.specs.declared.Record.{Record}
use Rattle.eit.proofs.Test.{tests}
use Rattle.eit.proofs.Records.{count_records}
use Rattle.eit.proofs.Sound.{range_facts, sound_list}
use Rattle.window.specs.Roll.{counted_from, refilled, Rolled, success, roll, rolls}
use Rattle.window.proofs.Records.{counted_leaves, counted_length, counted_none, counted_more}
use Rattle.window.proofs.Records.{refilled_records, refilled_buffer, refilled_again, refilled_own}
use Rattle.window.proofs.Roll.{roll_sound, refilled_sound}

module _ (sizes : Sizes) (pools : Pools) (list : EventList) (base : ℕ) (is : T (sound sizes pools list)) where
  -- the records that stay for n days
  abbrev staying : ℕ → List Record
  staying n = counted_from (seconds_of_day * n) (records_of list)

  few : (n : ℕ) → length (staying n) ≤ list.count
  few n = omega (arith, counted_length (seconds_of_day * n) (records_of list), count_records list)

  -- a roll of the list that n rolls left
  one_more : (n : ℕ) → base + suc n ≤ base_day_max
      → roll sizes pools (refilled list (staying n)) (base + n) ≡ success list (staying (suc n)) (base + suc n)
  one_more n range =
      let rolled : EventList = refilled list (staying n) in
      let days : seconds_of_day * n + seconds_of_day ≡ seconds_of_day * suc n = omega arith in
      let stay : counted_from seconds_of_day (records_of rolled) ≡ staying (suc n) =
      ap (counted_from seconds_of_day) (refilled_records list (staying n))
      ∙ counted_more (seconds_of_day * n) seconds_of_day (records_of list)
      ∙ ap (λ (seconds : ℕ). counted_from seconds (records_of list)) days in
      let fewer : length (staying (suc n)) ≤ length (staying n) =
      omega (
        arith,
        counted_length seconds_of_day (staying n),
        ap length (counted_more (seconds_of_day * n) seconds_of_day (records_of list)),
        ap (λ (seconds : ℕ). length (counted_from seconds (records_of list))) days,
      ) in
      let next : base + n + 1 ≡ base + suc n = omega arith in
      roll_sound sizes pools rolled (base + n) (omega arith)
      (refilled_sound sizes pools list (seconds_of_day * n) is)
      ∙ ap (λ (rs : List Record). success rolled rs (base + n + 1)) stay
      ∙ (λ i. record {
        number = 0;
        value = length (staying (suc n));
        list = refilled_again list (staying n) (few n) (staying (suc n)) fewer i;
        base = next i;
      })

  pub rolls_are : (n : ℕ) → base + n ≤ base_day_max → rolls sizes pools list base n ≡ success list (staying n) (base + n)
  unfolding rolls
  rolls_are zero range =
      let held = (sound_list sizes pools list is).held in
      let day : base + 0 ≡ base = omega arith in
      let all : staying 0 ≡ records_of list =
      ap (λ (seconds : ℕ). counted_from seconds (records_of list)) (omega arith) ∙ counted_none (records_of list) in
      sym (ap (λ (rs : List Record). success list rs (base + 0)) all
      ∙ (λ i. record {
        number = 0;
        value = count_records list i;
        list = refilled_own list held i;
        base = day i;
      }))
  rolls_are (suc n) range =
      ap (λ (before : Rolled). roll sizes pools before.list before.base) (rolls_are n (omega arith))
      ∙ one_more n range

  pub rolls_records : (n : ℕ) → base + n ≤ base_day_max → records_of (rolls sizes pools list base n).list ≡ staying n
  rolls_records n range =
      ap (λ (r : Rolled). records_of r.list) (rolls_are n range) ∙ refilled_records list (staying n)

  pub rolls_buffer : (n : ℕ) → base + n ≤ base_day_max
      → (rolls sizes pools list base n).list.buffer
      ≡ numbers_of_all (staying n)
      ++ replicate ((list.count - length (staying n)) * record_size) 0
      ++ drop (list.count * record_size) list.buffer
  rolls_buffer n range =
      ap (λ (r : Rolled). r.list.buffer) (rolls_are n range) ∙ refilled_buffer list (staying n) (few n)

-- a window of 64 days leaves in 64 days
window_leaves : (pools : Pools) (rs : List Record) → T (all_valid pools rs) → counted_from window_seconds rs ≡ []
window_leaves pools [] valid = refl
window_leaves pools (r ∷ rs) valid =
    counted_leaves window_seconds r rs (range_facts r (search tests)).start
    ∙ window_leaves pools rs (search tests)

pub rolls_all : (sizes : Sizes) (pools : Pools) (list : EventList) (base : ℕ) → base + 64 ≤ base_day_max
    → T (sound sizes pools list)
    → records_of (rolls sizes pools list base 64).list ≡ []
rolls_all sizes pools list base range is =
    rolls_records sizes pools list base is 64 range
    ∙ window_leaves pools (records_of list) (sound_list sizes pools list is).records.valid
