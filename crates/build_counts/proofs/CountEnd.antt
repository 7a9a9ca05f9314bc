-- What the pass over all segments has found at its end is what Build asks of a sound list. Assumes nothing.
use mathlib.Core.Path.{◌≡◌, refl, sym, ap, ap₂, subst, ◌∙◌}
use mathlib.Core.Bool.{Bool, true, false, not}
use mathlib.Core.Logic.{⊎_elim}
use mathlib.Core.List.{List, flatten}
use Prim.Native.Nat.{ℕ, zero, suc, ◌+◌, ◌≤◌}
use native.Mathlib.Numerals.{add-one}
use native.Mathlib.Omega.{arith}
use lib.Dec.{T}
use lib.ListN.{length}
use lib.Seq.{ext_get_or}
use Rattle.std.specs.Prelude.{Option, Some, None, nat_eq, position, unwrap_or}
use Rattle.std.specs.List.{position_from}
use Rattle.std.proofs.lemmas.Iterator.Adapters.{position_from-zero}
use Rattle.eit.specs.declared.Sizes.{Sizes}
use Rattle.eit.specs.Identity.{zero_identity}
use Rattle.eit.specs.Pools.{Pools}
use Rattle.eit.specs.Records.{EventList, lent_list}
use Rattle.eit.specs.Events.{Event, rising}
use Rattle.eit.specs.Sound.{sound, events_of}
use Rattle.eit.proofs.Test.{true_is, false_is, test_or}
use Rattle.sections.specs.Section.{section_sizes}
use Rattle.sections.specs.Each.{each, lowest}
use Rattle.schedule.specs.SectionsOf.{is_unpackable, lowest_unpackable}
use Rattle.schedule.specs.Plan.{section_count, plan}
use Rattle.sections.proofs.Each.{each_length, each_at}
use Rattle.schedule.proofs.SoundEvents.{SoundStarts, sound_starts}
use Rattle.schedule.proofs.Plan.{plan_sound}
use Rattle.schedule.proofs.ByIndex.{flat_plan, file_by_index, lowest_by_index}
use Rattle.build_counts.specs.Counting.{need_of, index_found, counted_of}
use Rattle.build_counts.specs.declared.count.Counted.{Counted}
use Rattle.build_counts.proofs.WalkLaws.{held_events, events_are}
use Rattle.build_counts.proofs.CountLaws.{bytes_end, full_is}
use Rattle.build_counts.proofs.CountPass.{CountedSoFar}

pub holds : {b : Bool} → b ≡ true → T b
holds is = subst T (sym is) tt

-- ---- what is counted, by whether the list is sound

abbrev pub counted_with : List ℕ → Option ℕ → ℕ → Option Counted
counted_with counts lowest need = Some (record { counts = counts; lowest = lowest; need = need })

module _ (sizes : Sizes) (pools : Pools) (list : EventList) where
  pub sound_is : T (sound sizes pools list)
      → counted_of sizes pools list
      ≡ counted_with (flatten (plan sizes pools list)) (index_found (lowest_unpackable sizes (events_of pools list)))
      (need_of sizes (events_of pools list))
  unfolding counted_of
  sound_is is = rw (counted_of, true_is (sound sizes pools list) is)

  pub unsound_is : sound sizes pools list ≡ false → counted_of sizes pools list ≡ None
  unfolding counted_of
  unsound_is fails = rw (counted_of, fails)

  -- whether it is
  pub counted_none : None ≡ counted_of sizes pools list → T (not (sound sizes pools list))
  counted_none none =
      ⊎_elim (λ is. let found = sound_is is in absurd (cc)) (λ fails. fails) (test_or (sound sizes pools list))

  -- what a count says
  pub record SoundCount (counted : Counted) : Type 0 where
    pub is_sound : T (sound sizes pools list)
    pub counts : counted.counts ≡ flatten (plan sizes pools list)
    pub lowest : counted.lowest ≡ index_found (lowest_unpackable sizes (events_of pools list))
    pub need : counted.need ≡ need_of sizes (events_of pools list)

  pub counted_some : {counted : Counted} → Some counted ≡ counted_of sizes pools list → SoundCount counted
  counted_some {counted} some =
      ⊎_elim
      (λ is.
      let same : Some counted
      ≡ counted_with (flatten (plan sizes pools list))
      (index_found (lowest_unpackable sizes (events_of pools list)))
      (need_of sizes (events_of pools list)) =
      some ∙ sound_is is in
      record {
        is_sound = is;
        counts = ap (λ (o : Option Counted). (unwrap_or o counted).counts) same;
        lowest = ap (λ (o : Option Counted). (unwrap_or o counted).lowest) same;
        need = ap (λ (o : Option Counted). (unwrap_or o counted).need) same;
      })
      (λ fails. let found = unsound_is (false_is (sound sizes pools list) fails) in absurd (cc))
      (test_or (sound sizes pools list))

-- ---- the lowest unpackable segment, by the counts

module _ (full : ℕ → Bool) (p : ℕ → Bool) (count : ℕ → ℕ) (same : (k : ℕ) → full (count k) ≡ p k) where
  each_position : (least n : ℕ) → position_from full least (each count least n) ≡ index_found (lowest p least n)
  unfolding each lowest
  each_position least zero = refl
  each_position least (suc n) =
      let later : position_from full (least + 1) (each count (suc least) n) ≡ index_found (lowest p (suc least) n) =
      rw (add-one least) (each_position (suc least) n) in
      ⊎_elim
      (λ here. rw (same least, lowest, true_is (p least) here))
      (λ not_here. rw (same least, lowest, false_is (p least) not_here) later)
      (test_or (p least))

-- ---- a sound list

module _ (sizes : Sizes) (pools : Pools) (numbers : List ℕ) (count : ℕ)
    (is_sound_holds : T (sound sizes pools (lent_list numbers count))) where
  abbrev list : EventList
  list = lent_list numbers count

  facts : SoundStarts (held_events pools numbers count)
  facts = subst SoundStarts (events_are pools numbers count) (sound_starts sizes pools list is_sound_holds)

  pub sound_rises : T (rising (held_events pools numbers count))
  sound_rises = facts.rises

  module _ {counts : List ℕ} {need from index : ℕ}
      (end : CountedSoFar sizes pools numbers count counts need from index)
      (behind : 512 ≤ index) where
    abbrev es : List Event
    es = held_events pools numbers count

    row_is : each (section_count sizes es) 0 512 ≡ counts
    row_is =
        ext_get_or 0 (each (section_count sizes es) 0 512) counts
        (each_length (section_count sizes es) 0 512 ∙ sym end.long)
        (λ k few.
        let same : 0 + k ≡ k = omega arith in
        let size : length (each (section_count sizes es) 0 512) ≡ 512 = each_length (section_count sizes es) 0 512 in
        each_at (section_count sizes es) 0 0 512 k (omega arith)
        ∙ ap (section_count sizes es) same
        ∙ sym (end.counted k (omega arith)))

    counts_are : flatten (plan sizes pools list) ≡ counts
    counts_are =
        ap flatten (plan_sound sizes pools list is_sound_holds)
        ∙ flat_plan (section_count sizes (events_of pools list))
        ∙ ap (λ (fs : List Event). each (section_count sizes fs) 0 512) (events_are pools numbers count)
        ∙ row_is

    lowest_are : index_found (lowest_unpackable sizes (events_of pools list)) ≡ position (λ c. nat_eq c 255) counts
    lowest_are =
        ap (λ (fs : List Event). index_found (lowest_unpackable sizes fs)) (events_are pools numbers count)
        ∙ ap index_found (lowest_by_index sizes es facts)
        ∙ sym (each_position (λ c. nat_eq c 255) (is_unpackable sizes es) (section_count sizes es)
        (λ k. sym (full_is sizes es sound_rises k)) 0 512)
        ∙ sym (position_from-zero (λ c. nat_eq c 255) (each (section_count sizes es) 0 512))
        ∙ ap (position (λ c. nat_eq c 255)) row_is

    need_are : need_of sizes (events_of pools list) ≡ need
    unfolding need_of
    need_are =
        ap (need_of sizes) (events_are pools numbers count)
        ∙ ap section_sizes (file_by_index sizes zero_identity es facts.starts)
        ∙ end.bytes_are
        ∙ omega (arith, bytes_end sizes es index (omega arith))

    pub count_end : {lowest : Option ℕ} → lowest ≡ position (λ c. nat_eq c 255) counts
        → Some (record { counts = counts; lowest = lowest; need = need }) ≡ counted_of sizes pools list
    count_end {lowest} is_lowest =
        sym
        (sound_is sizes pools list is_sound_holds
        ∙ ap
        (λ (cs : List ℕ).
        counted_with cs (index_found (lowest_unpackable sizes (events_of pools list)))
        (need_of sizes (events_of pools list)))
        counts_are
        ∙ ap₂ (counted_with counts) (lowest_are ∙ sym is_lowest) need_are)
