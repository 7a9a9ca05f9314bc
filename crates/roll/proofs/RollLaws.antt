-- A roll, by what its tests say: success is the records of the next day written, and then zeros. Assumes nothing.
use mathlib.Core.Path.{◌≡◌, sym, ap, ◌∙◌}
use mathlib.Core.List.{List, ◌++◌}
use Prim.Native.Nat.{ℕ, ◌+◌, ◌-◌, ◌*◌, ◌≤◌, ◌<◌}
use native.Mathlib.Omega.{arith}
use lib.Dec.{T}
use lib.ListN.{length, replicate}
use Rattle.eit.specs.declared.Sizes.{Sizes}
use Rattle.eit.specs.Limits.{base_day_max}
use Rattle.eit.specs.Time.{seconds_of_day}
use Rattle.eit.specs.Overwrite.{overwrite}
use Rattle.eit.specs.Pools.{Pools}
use Rattle.eit.specs.Records.{lent_list, record_size, records_of, records_in, numbers_of_all}
use Rattle.eit.specs.Sound.{sound}
use Rattle.eit.specs.declared.Record.{Record}
use Rattle.eit.proofs.Records.{numbers_length, records_length}
use Rattle.eit.proofs.Sound.{sound_list}
use Rattle.list_records.proofs.WriteLaws.{over_behind}
use Rattle.window.specs.Roll.{next_day, roll}
use Rattle.window.proofs.Records.{counted_length}
use Rattle.window.proofs.Roll.{roll_sound}
use Rattle.std.specs.Prelude.{Ok}
use Rattle.roll.specs.Outcome.{outcome_of}

next_length : (rs : List Record) → length (next_day rs) ≤ length rs
unfolding next_day
next_length rs = counted_length seconds_of_day rs

-- no more records stay than there are
pub stay_few : (count : ℕ) (d : List ℕ) → length (next_day (records_in count d)) ≤ count
stay_few count d = omega (arith, next_length (records_in count d), records_length count d)

module _ (sizes : Sizes) (pools : Pools) (d : List ℕ) (count base : ℕ) (is : T (sound sizes pools (lent_list d count)))
  where
    pub held : count * record_size ≤ length d
    held = (sound_list sizes pools (lent_list d count) is).held

    abbrev stay : List Record
    stay = next_day (records_in count d)

    module _ {kept : ℕ} (counted : kept ≡ length stay) where
      pub kept_few : kept ≤ count
      kept_few = omega (arith, counted, stay_few count d)

      pub rolled : base < base_day_max → {moved out : List ℕ} → moved ≡ overwrite d 0 (numbers_of_all stay)
          → out ≡ overwrite moved (kept * record_size) (replicate (count * record_size - kept * record_size) 0)
          → roll sizes pools (lent_list d count) base
          ≡ outcome_of count base (Ok (record { count = kept; base_day = base + 1 })) out
      unfolding next_day records_of
      rolled day {moved} {out} first second =
          let size : length (numbers_of_all stay) ≡ kept * record_size =
          numbers_length stay ∙ ap (λ (n : ℕ). n * record_size) (sym counted) in
          let zeros : List ℕ = replicate (count * record_size - kept * record_size) 0 in
          let freed : count * record_size - kept * record_size ≡ (count - length stay) * record_size =
          omega (arith, counted) in
          let buffer : out ≡ overwrite d 0 (numbers_of_all stay ++ replicate ((count - length stay) * record_size) 0) =
          second
          ∙ ap (λ (ns : List ℕ). overwrite ns (kept * record_size) zeros) first
          ∙ over_behind d 0 (numbers_of_all stay) (omega arith) (kept * record_size) zeros (omega (arith, size))
          ∙ ap (λ (n : ℕ). overwrite d 0 (numbers_of_all stay ++ replicate n 0)) freed in
          roll_sound sizes pools (lent_list d count) base day is
          ∙ (λ i. record {
            number = 0;
            value = sym counted i;
            list = record { buffer = sym buffer i; count = sym counted i };
            base = base + 1;
          })
