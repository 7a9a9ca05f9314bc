-- A built file lies in the output: every other outcome is a refusal. Assumes nothing.
use Prim.Native.Nat.{ℕ, ◌≤◌}
use mathlib.Core.List.{List}
use mathlib.Core.Path.{◌≡◌, refl, sym, ap, subst, ◌∙◌}
use Rattle.std.specs.Prelude.{Result, Ok, Err, IfOk}
use native.Mathlib.Omega.{arith}
use lib.ListN.{length}
use Rattle.eit.specs.declared.Sizes.{Sizes}
use Rattle.eit.specs.Pools.{Pools}
use Rattle.eit.specs.Records.{EventList}
use Rattle.eit.specs.declared.Identity.{Identity}
use Rattle.sections.specs.Section.{Section, section_sizes}
use Rattle.schedule.specs.Build.{Built, build, written}
use Rattle.build_answer.specs.Outcome.{outcome_of}
use Rattle.build_answer.specs.declared.BuildError.{BuildError}
use Rattle.schedule.proofs.Build.{build_is, written_fits}

abbrev Inside : List ℕ → Built → Type 0
Inside output built = built.number ≡ 0 → built.value ≤ length output

module _ (sizes : Sizes) (pools : Pools) (list : EventList) (base : ℕ) (identity : Identity) (output : List ℕ) where
  build_inside : Inside output (build sizes pools list base identity output)
  build_inside =
      build_is (Inside output) sizes base identity output
      (λ (number value : ℕ) (refused : number ≡ 0 → ⊥) (success : number ≡ 0). absurd (refused success))
      (λ (ss : List Section) (fits : section_sizes ss ≤ length output) (success : (written base ss output).number ≡ 0).
      omega (arith, ap (λ (b : Built). b.value) (written_fits base ss output fits)))
      pools
      list

  -- as an answer's number and value say it
  pub built_inside : (built : Built) → build sizes pools list base identity output ≡ built
      → {number size : ℕ} → number ≡ built.number → size ≡ built.value → number ≡ 0 → size ≤ length output
  built_inside built is {number} {size} number_is value success =
      let inside : Inside output built =
      subst (Inside output) is build_inside in omega (arith, inside (sym number_is ∙ success))

  pub ok_inside : (answer : Result ℕ BuildError) (after : List ℕ)
      → build sizes pools list base identity output ≡ outcome_of answer after → length after ≡ length output
      → IfOk answer (λ size. size ≤ length after)
  ok_inside (Ok size) after is same = omega (arith, built_inside (outcome_of (Ok size) after) is refl refl refl, same)
  ok_inside (Err refusal) after is same = tt
