-- What Build answers, case by case, by what it has found out of the list. Assumes nothing.
use mathlib.Core.Path.{◌≡◌, refl, sym, ap, ap₂, subst, ◌∙◌}
use mathlib.Core.Bool.{Bool, true, not}
use mathlib.Core.Logic.{⊎_elim}
use mathlib.Core.List.{List, flatten}
use mathlib.Core.Option as maybe
use mathlib.Core.Option.{none, some}
use Prim.Native.Nat.{ℕ, ◌≤◌, ◌<◌}
use native.Mathlib.Omega.{arith}
use lib.Dec.{T}
use lib.ListN.{length}
use Rattle.std.specs.Prelude.{Option, Some, None}
use Rattle.eit.specs.declared.Sizes.{Sizes}
use Rattle.eit.specs.Limits.{base_day_max}
use Rattle.eit.specs.Overwrite.{overwrite}
use Rattle.eit.specs.Pools.{Pools}
use Rattle.eit.specs.Records.{EventList, lent_list, records_in}
use Rattle.eit.specs.Events.{Event, events_in}
use Rattle.eit.specs.Sound.{events_of}
use Rattle.eit.specs.declared.Identity.{Identity}
use Rattle.sections.specs.Section.{section_sizes}
use Rattle.sections.specs.Encode.{file_bytes}
use Rattle.sections.specs.Each.{each}
use Rattle.schedule.specs.SectionsOf.{is_unpackable, lowest_unpackable, sections_of}
use Rattle.schedule.specs.Plan.{section_count}
use Rattle.schedule.specs.Build.{Built, written, build_events, are_versions, build}
use Rattle.schedule.proofs.SoundEvents.{SoundStarts, sound_starts}
use Rattle.schedule.proofs.Packable.{packable_or}
use Rattle.schedule.proofs.Plan.{plan_sound}
use Rattle.schedule.proofs.ByIndex.{flat_plan}
use Rattle.schedule.proofs.Build.{build_unsound, build_sound, events_refused, events_written, written_short}
use Rattle.schedule.proofs.Build.{written_fits}
use Rattle.build_counts.specs.Counting.{index_found, counted_of}
use Rattle.build_counts.specs.declared.count.Counted.{Counted}
use Rattle.build_counts.proofs.WalkLaws.{events_are}
use Rattle.build_counts.proofs.CountEnd.{holds, SoundCount, counted_none, counted_some}
use Rattle.build_counts.proofs.NeedLaws.{need_is}
use Rattle.build.specs.Writing.{Writable}

found_some : (o : maybe.Option ℕ) {n : ℕ} → Some n ≡ index_found o → o ≡ some n
found_some none is = absurd (cc)
found_some (some index) is = ap some (cc)

found_none : (o : maybe.Option ℕ) → None ≡ index_found o → o ≡ none
found_none none is = refl
found_none (some index) is = absurd (cc)

-- a call with a legal base day and legal versions, and an unsound list
pub answer_unsound : (sizes : Sizes) (pools : Pools) (list : EventList) (base : ℕ) (identity : Identity)
    (output : List ℕ)
    → base ≤ base_day_max → T (are_versions identity.versions) → None ≡ counted_of sizes pools list
    → build sizes pools list base identity output ≡ record { number = 12; value = 0; output = output }
answer_unsound sizes pools list base identity output legal_base legal_versions uncounted =
    build_unsound sizes pools list base identity output legal_base legal_versions
    (counted_none sizes pools list uncounted)

-- .. and what it counted of a sound list
pub record Asked (sizes : Sizes) (pools : Pools) (numbers : List ℕ) (count base : ℕ) (identity : Identity)
    (output : List ℕ) (counted : Counted)
    : Type 0 where
  pub is_counted : Some counted ≡ counted_of sizes pools (lent_list numbers count)
  pub legal_base_holds : base ≤ base_day_max
  pub legal_versions : T (are_versions identity.versions)

pub asked_of : {sizes : Sizes} {pools : Pools} {numbers : List ℕ} {count base : ℕ} {identity : Identity}
    {output : List ℕ} {counted : Counted} {found : Option Counted} {legal : Bool}
    → base ≤ base_day_max → legal ≡ are_versions identity.versions → legal ≡ true
    → found ≡ counted_of sizes pools (lent_list numbers count) → found ≡ Some counted
    → Asked sizes pools numbers count base identity output counted
asked_of legal_base legal_is legal is_counted sound_list =
    record {
      is_counted = sym sound_list ∙ is_counted;
      legal_base_holds = legal_base;
      legal_versions = holds (sym legal_is ∙ legal);
    }

module _ {sizes : Sizes} {pools : Pools} {numbers : List ℕ} {count base : ℕ} {identity : Identity} {output : List ℕ}
    {counted : Counted} (asked : Asked sizes pools numbers count base identity output counted) where
  abbrev list : EventList
  list = lent_list numbers count

  abbrev answer : Built
  answer = build sizes pools list base identity output

  abbrev es : List Event
  es = events_of pools list

  found : SoundCount sizes pools list counted
  found = counted_some sizes pools list asked.is_counted

  need_found : counted.need ≡ section_sizes (sections_of sizes identity es)
  need_found = found.need ∙ sym (need_is sizes es identity)

  built_events : answer ≡ build_events sizes base identity es output
  built_events =
      build_sound sizes pools list base identity output asked.legal_base_holds asked.legal_versions found.is_sound

  pub answer_unpackable : {index : ℕ} → counted.lowest ≡ Some index
      → answer ≡ record { number = 10; value = index; output = output }
  answer_unpackable {index} is =
      built_events
      ∙ events_refused sizes base identity es output index
      (found_some (lowest_unpackable sizes es) (sym is ∙ found.lowest))

  module _ (is : counted.lowest ≡ None) where
    facts : SoundStarts es
    facts = sound_starts sizes pools list found.is_sound

    none_unpackable : (lowest_unpackable sizes es ≡ none) × ((index : ℕ) → T (not (is_unpackable sizes es index)))
    none_unpackable =
        ⊎_elim
        (λ fits. fits)
        (λ (index, first, few, fails, before).
        let none_found = found_none (lowest_unpackable sizes es) (sym is ∙ found.lowest) in absurd (cc))
        (packable_or sizes es facts)

    built_sections : answer ≡ written base (sections_of sizes identity es) output
    built_sections = built_events ∙ events_written sizes base identity es output none_unpackable.0

    pub answer_short : length output < counted.need
        → answer ≡ record { number = 11; value = counted.need; output = output }
    answer_short short =
        built_sections
        ∙ written_short base (sections_of sizes identity es) output (omega (arith, need_found))
        ∙ ap (λ (n : ℕ). record { number = 11; value = n; output = output }) (sym need_found)

    counts_are : counted.counts ≡ each (section_count sizes es) 0 512
    counts_are =
        found.counts
        ∙ ap flatten (plan_sound sizes pools list found.is_sound)
        ∙ flat_plan (section_count sizes es)

    pub answer_writable : counted.need ≤ length output
        → Writable sizes identity (events_in pools (records_in count numbers)) counted.counts output
    answer_writable fits =
        subst (λ (fs : List Event). Writable sizes identity fs counted.counts output)
        (events_are pools numbers count)
        (record {
          rises = facts.rises;
          starts = facts.starts;
          packs = none_unpackable.1;
          counted = counts_are;
          fits = omega (arith, need_found);
        })

    pub answer_done : counted.need ≤ length output → {after : List ℕ}
        → after
        ≡ overwrite output 0
        (file_bytes base (sections_of sizes identity (events_in pools (records_in count numbers))))
        → answer ≡ record { number = 0; value = counted.need; output = after }
    answer_done fits {after} is-after =
        let same : after ≡ overwrite output 0 (file_bytes base (sections_of sizes identity es)) =
        is-after
        ∙ ap (λ (fs : List Event). overwrite output 0 (file_bytes base (sections_of sizes identity fs)))
        (sym (events_are pools numbers count)) in
        built_sections
        ∙ written_fits base (sections_of sizes identity es) output (omega (arith, need_found))
        ∙ ap₂ (λ (n : ℕ) (o : List ℕ). record { number = 0; value = n; output = o }) (sym need_found) (sym same)
