-- `plan::write_built` meets its contract: Build's outcome decides between a refusal and the listing of the file, which
-- lies in the output. Assumes nothing.
use Rattle.std.proofs.Common.{rules, ◌≡◌, ℕ, List, ◌≤◌, length, take, length-take-le, refl, sym, ◌∙◌, arith}
use mathlib.Core.Path.{ap₂}
use Rattle.eit.proofs.Fields.{bytes_all, bytes_take}
use Rattle.eit.specs.Sizes.{broadcast}
use Rattle.eit.specs.Identity.{zero_identity}
use Rattle.eit.specs.Pools.{Pools}
use Rattle.eit.specs.Records.{lent_list}
use Rattle.eit.specs.declared.Identity.{Identity}
use Rattle.schedule.specs.Build.{Built, build}
use Rattle.build_answer.specs.Outcome.{error_number}
use Rattle.build_answer.specs.declared.BuildError.{BuildError}
use Rattle.build_answer.proofs.Inside.{built_inside}
use Rattle.plan_listing.proofs.SizeLaws.{refused_length, listing_length}
use Rattle.plan.specs.PlanText.{no_pools, base_day}
use Rattle.plan.proofs.PlanLaws.{list_refused, list_built, written_as}
use Rattle.plan.proofs.write_built.Goals as goal

-- Build of empty pools, under an identity that is that of zeros
under_zeros : (list : List ℕ) (count : ℕ) (output : List ℕ) {pools : Pools} {identity : Identity} {built : Built}
    → pools ≡ no_pools → identity ≡ zero_identity
    → build broadcast pools (lent_list list count) base_day identity output ≡ built
    → build broadcast no_pools (lent_list list count) base_day zero_identity output ≡ built
under_zeros list count output empty zeros is =
    ap₂ (λ (p : Pools) (i : Identity). build broadcast p (lent_list list count) base_day i output) (sym empty) (sym zeros) ∙ is

number_not_0 : (refusal : BuildError) → error_number refusal ≡ 0 → ⊥
number_not_0 = search rules

pub returns-in-Err : goal.returns-in-Err
returns-in-Err c =
    let a = c.args in
    let built = c.in-Err.ensures in
    written_as a.text.now _
    (list_refused a.output.now (lent_list a.list.now a.count) _
    (under_zeros a.list.now a.count a.output.now c.new.ensures c.zero_identity.ensures built)
    c.number.ensures (λ e. number_not_0 c.in-Err.refusal (sym c.number.ensures ∙ e)))
    c.write_refused.ensures
    (omega (arith, refused_length c.number.result (omega arith)))

-- the file that Build wrote lies in the output
pub slice_bounds-write_listing-end : goal.slice_bounds-write_listing-end
slice_bounds-write_listing-end c =
    let a = c.args in
    let built = c.in-Ok.ensures in
    let inside =
    built_inside broadcast no_pools (lent_list a.list.now a.count) base_day zero_identity a.output.now _
    (under_zeros a.list.now a.count a.output.now c.new.ensures c.zero_identity.ensures built)
    refl refl refl in
    omega (arith, inside, c.build.auto.out)

pub slice_bounds-write_listing-end-in-Ok : goal.slice_bounds-write_listing-end-in-Ok
slice_bounds-write_listing-end-in-Ok c =
    let inside : c.in-Ok.size ≤ length c.build.new.out = slice_bounds-write_listing-end c in
    sym (length-take-le c.in-Ok.size c.build.new.out inside)

pub returns-in-Ok : goal.returns-in-Ok
returns-in-Ok c =
    let a = c.args in
    let size = c.in-Ok.size in
    let output = c.build.new.out in
    let built = c.in-Ok.ensures in
    let is = under_zeros a.list.now a.count a.output.now c.new.ensures c.zero_identity.ensures built in
    let inside =
    built_inside broadcast no_pools (lent_list a.list.now a.count) base_day zero_identity a.output.now _ is
    refl refl refl in
    let length_is : length (take size output) ≡ size =
    length-take-le size output (omega (arith, inside, c.build.auto.out)) in
    let bytes = bytes_take size output (bytes_all output (λ k. search rules)) in
    written_as a.text.now _
    (list_built a.output.now (lent_list a.list.now a.count) _ is refl refl refl)
    c.write_listing.ensures
    (omega (arith, inside, length_is, listing_length (take size output) bytes (omega (arith, length_is))))
