-- Plan's tables are those of the counts of a sound list, and 254 everywhere for an unsound one. Assumes nothing.
use mathlib.Core.Path.{◌≡◌, refl, sym, ap, ◌∙◌}
use mathlib.Core.List.{List, ◌∷◌, flatten}
use Prim.Native.Nat.{ℕ, zero, suc}
use lib.ListN.{get_or, replicate}
use Rattle.std.specs.Prelude.{Some, None}
use Rattle.eit.specs.declared.Sizes.{Sizes}
use Rattle.eit.specs.Pools.{Pools}
use Rattle.eit.specs.Records.{EventList}
use Rattle.eit.specs.Sound.{events_of}
use Rattle.sections.specs.Each.{each}
use Rattle.schedule.specs.Plan.{section_count, tabled, plan}
use Rattle.schedule.proofs.Plan.{plan_sound, plan_unsound}
use Rattle.schedule.proofs.ByIndex.{flat_plan}
use Rattle.build_plan.proofs.TableLaws.{tabled_each}
use Rattle.build_counts.specs.Counting.{counted_of}
use Rattle.build_counts.specs.declared.count.Counted.{Counted}
use Rattle.build_counts.proofs.CountEnd.{SoundCount, counted_none, counted_some}

-- a row of the same values
each_same_value : {A : Type 0} (x : A) (least n : ℕ) → replicate n x ≡ each (λ (index : ℕ). x) least n
unfolding each
each_same_value x least zero = refl
each_same_value {A = A} x least (suc n) = ap (λ (xs : List A). x ∷ xs) (each_same_value x (suc least) n)

module _ (sizes : Sizes) (pools : Pools) (list : EventList) where
  pub plan_counted : {counted : Counted} → Some counted ≡ counted_of sizes pools list
      → tabled (λ (index : ℕ). get_or counted.counts index 0) ≡ plan sizes pools list
  plan_counted {counted} some =
      let found : SoundCount sizes pools list counted = counted_some sizes pools list some in
      let count : ℕ → ℕ = section_count sizes (events_of pools list) in
      let tables : plan sizes pools list ≡ tabled count = plan_sound sizes pools list found.is_sound in
      ap (λ (ns : List ℕ). tabled (λ (index : ℕ). get_or ns index 0))
      (found.counts ∙ ap flatten tables ∙ flat_plan count)
      ∙ tabled_each count
      ∙ sym tables

  pub plan_uncounted : None ≡ counted_of sizes pools list
      → replicate 16 (replicate {A = ℕ} 32 254) ≡ plan sizes pools list
  unfolding tabled
  plan_uncounted none =
      ap (replicate 16) (each_same_value 254 0 32)
      ∙ each_same_value (each (λ (segment : ℕ). 254) 0 32) 0 16
      ∙ sym (plan_unsound sizes pools list (counted_none sizes pools list none))
