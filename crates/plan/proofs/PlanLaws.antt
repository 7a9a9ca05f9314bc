-- The text for a script, case by case, by the tests of its definition; and that every text has room. Assumes nothing.
use Prim.Native.Nat.{ℕ, ◌+◌, ◌*◌, ◌≤◌, ◌<◌}
use mathlib.Core.List.{List}
use mathlib.Core.Path.{◌≡◌, refl, sym, ap, ◌∙◌}
use native.Mathlib.Omega.{arith}
use borrow.Author.Tests.{le-leb, lt-leb, eq-eqb, ne_eqb}
use lib.ListN.{length, take, replicate, length-replicate}
use Rattle.eit.specs.Sizes.{broadcast}
use Rattle.eit.specs.Identity.{zero_identity}
use Rattle.eit.specs.Overwrite.{overwrite}
use Rattle.eit.specs.Records.{EventList, lent_list}
use Rattle.script.specs.Edit.{Edited, edit}
use Rattle.schedule.specs.Build.{Built, build}
use Rattle.plan_listing.specs.Fill.{Fills}
use Rattle.plan_listing.specs.Listing.{listing, refused_text, too_long}
use Rattle.plan_listing.proofs.FillLaws.{filled_whole, filled_same}
use Rattle.plan.specs.PlanText.{script_max, output_size, buffer_size, no_pools, base_day}
use Rattle.plan.specs.PlanText.{built_text, list_text, edited_text, text_within, plan_text, text_max, Written}

-- ---- a list

module _ (output : List ℕ) (list : EventList) (built : Built)
    (is : build broadcast no_pools list base_day zero_identity output ≡ built) where
  pub list_refused : {number : ℕ} → number ≡ built.number → (number ≡ 0 → ⊥)
      → list_text output list ≡ refused_text number
  unfolding list_text built_text
  list_refused {number} number_is refused =
      let not-0 : built.number ≡ 0 → ⊥ = λ e. refused (number_is ∙ e) in
      ap built_text is ∙ rw (built_text, ne_eqb built.number 0 not-0) (ap refused_text (sym number_is))

  pub list_built : {number size : ℕ} → number ≡ built.number → size ≡ built.value → number ≡ 0
      → list_text output list ≡ listing (take size built.output)
  unfolding list_text built_text
  list_built {number} {size} number_is value success =
      ap built_text is
      ∙ rw (built_text, eq-eqb built.number 0 (sym number_is ∙ success))
      (ap (λ (n : ℕ). listing (take n built.output)) (sym value))

-- ---- a script

module _ (buffer output script : List ℕ) where
  pub script_long : script_max < length script → text_within buffer output script ≡ too_long
  unfolding text_within
  script_long long = rw (text_within, lt-leb (length script) script_max long)

  module _ (short : length script ≤ script_max) (edited : Edited)
      (is : edit broadcast no_pools (lent_list buffer 0) script ≡ edited) where
    script_edited : text_within buffer output script ≡ edited_text output edited
    unfolding text_within
    script_edited = rw (text_within, le-leb (length script) script_max short) (ap (edited_text output) is)

    pub script_refused : {number : ℕ} → number ≡ edited.number → (number ≡ 0 → ⊥)
        → text_within buffer output script ≡ refused_text number
    unfolding edited_text
    script_refused {number} number_is refused =
        let not-0 : edited.number ≡ 0 → ⊥ = λ e. refused (number_is ∙ e) in
        script_edited ∙ rw (edited_text, ne_eqb edited.number 0 not-0) (ap refused_text (sym number_is))

    pub script_list : {number : ℕ} → number ≡ edited.number → number ≡ 0
        → text_within buffer output script ≡ list_text output edited.list
    unfolding edited_text
    script_list {number} number_is success =
        script_edited ∙ rw (edited_text, eq-eqb edited.number 0 (sym number_is ∙ success))

-- ---- what is written

-- the same text in other words
module _ (d : List ℕ) (most : ℕ) {text said e : List ℕ} {p : ℕ} (same : text ≡ said) where
  pub written_as : Fills d 0 said e p → length said ≤ most → Written d text e p most
  written_as fills short = record { fills = filled_same d 0 (sym same) fills; short = omega (arith, ap length same) }

  pub written_also : Written d said e p most → Written d text e p most
  written_also w = written_as w.fills w.short

plan_is : (script : List ℕ) → plan_text script ≡ text_within (replicate buffer_size 0) (replicate output_size 0) script
unfolding plan_text
plan_is script = refl

-- where every text has room, it is written whole
pub plan_whole : (d script : List ℕ) {e : List ℕ} {p : ℕ} → text_max ≤ length d
    → Written d (text_within (replicate buffer_size 0) (replicate output_size 0) script) e p
    (4 * length (replicate {A = ℕ} output_size 0) + 64)
    → (e ≡ overwrite d 0 (plan_text script)) × (p ≡ length (plan_text script)) × (p ≤ text_max)
plan_whole d script room w =
    let w' = written_also d (4 * length (replicate {A = ℕ} output_size 0) + 64) (plan_is script) w in
    let size : length (replicate {A = ℕ} output_size 0) ≡ output_size = length-replicate {A = ℕ} output_size 0 in
    let short : length (plan_text script) ≤ text_max = omega (arith, w'.short) in
    let (whole, ends) = filled_whole d 0 (plan_text script) (omega arith) in
    (w'.fills.0 ∙ sym whole, omega (arith, w'.fills.1, ends), omega (arith, w'.fills.1, ends))
