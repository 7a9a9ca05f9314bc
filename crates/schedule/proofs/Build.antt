-- What Build answers, case by case, and what it leaves: by the tests of its definition. Assumes nothing.
use mathlib.Core.Path.{◌≡◌, refl, sym, ap, ap₂, subst, ◌∙◌}
use mathlib.Core.Bool.{not}
use mathlib.Core.Logic.{◌⊎◌, inl, inr, ⊎_elim}
use mathlib.Core.List.{List, [], ◌∷◌, ◌++◌}
use mathlib.Core.Option.{Option, none, some}
use Prim.Native.Nat.{ℕ, ◌+◌, ◌≤◌, ◌<◌}
use native.Mathlib.Omega.{arith}
use borrow.Author.Tests.{le-leb, lt-leb}
use lib.Dec.{T, leb, le→leb}
use lib.ListN.{length, take, drop}
use lib.Seq.{take-append_seam}
use Rattle.eit.specs.declared.Sizes.{Sizes}
use Rattle.eit.specs.Limits.{base_day_max, version_max}
use Rattle.eit.specs.Overwrite.{overwrite}
use Rattle.eit.specs.Pools.{Pools}
use Rattle.eit.specs.Records.{EventList}
use Rattle.eit.specs.Events.{Event}
use Rattle.eit.specs.Sound.{sound, events_of}
use Rattle.eit.specs.declared.Identity.{Identity}
use Rattle.eit.proofs.Test.{and_both, true_is, false_is, test_or, le_or_lt}
use Rattle.sections.specs.Every.{Every}
use Rattle.sections.specs.Section.{Section, section_sizes}
use Rattle.sections.specs.Encode.{file_bytes}
use Rattle.sections.proofs.Lengths.{file_length}
use Rattle.schedule.specs.SectionsOf.{lowest_unpackable, sections_of}
use Rattle.schedule.specs.Build.{Built, refusal, written, build_events, are_versions, build, file_of}

-- ---- 1, 2, 12, and the rest

-- the versions of an identity that keeps the rules are legal
pub legal_versions : (versions : List ℕ) → Every (λ (version : ℕ). version ≤ version_max) versions
    → T (are_versions versions)
legal_versions [] few = tt
legal_versions (version ∷ versions) few =
    and_both (leb version version_max) (are_versions versions) (le→leb version version_max few.0)
    (legal_versions versions few.1)

module _ (sizes : Sizes) (pools : Pools) (list : EventList) (base : ℕ) (identity : Identity) (output : List ℕ) where
  pub build_base : base_day_max < base
      → build sizes pools list base identity output ≡ record { number = 1; value = 0; output = output }
  unfolding build
  build_base above = rw (build, lt-leb base base_day_max above)

  module _ (day : base ≤ base_day_max) where
    pub build_version : T (not (are_versions identity.versions))
        → build sizes pools list base identity output ≡ record { number = 2; value = 0; output = output }
    unfolding build
    build_version above = rw (build, le-leb base base_day_max day, false_is (are_versions identity.versions) above)

    module _ (legal : T (are_versions identity.versions)) where
      pub build_unsound : T (not (sound sizes pools list))
          → build sizes pools list base identity output ≡ record { number = 12; value = 0; output = output }
      unfolding build
      build_unsound unsound =
          rw (
            build,
            le-leb base base_day_max day,
            true_is (are_versions identity.versions) legal,
            false_is (sound sizes pools list) unsound,
          )

      pub build_sound : T (sound sizes pools list)
          → build sizes pools list base identity output ≡ build_events sizes base identity (events_of pools list) output
      unfolding build
      build_sound is =
          rw (
            build,
            le-leb base base_day_max day,
            true_is (are_versions identity.versions) legal,
            true_is (sound sizes pools list) is,
          )

-- ---- 10

module _ (sizes : Sizes) (base : ℕ) (identity : Identity) (es : List Event) (output : List ℕ) where
  pub events_refused : (index : ℕ) → lowest_unpackable sizes es ≡ some index
      → build_events sizes base identity es output ≡ record { number = 10; value = index; output = output }
  unfolding build_events
  events_refused index is = rw (build_events, is)

  pub events_written : lowest_unpackable sizes es ≡ none
      → build_events sizes base identity es output ≡ written base (sections_of sizes identity es) output
  unfolding build_events
  events_written is = rw (build_events, is)

-- ---- 11 and success

module _ (base : ℕ) (ss : List Section) (output : List ℕ) where
  pub written_short : length output < section_sizes ss
      → written base ss output ≡ record { number = 11; value = section_sizes ss; output = output }
  unfolding written
  written_short short = rw (written, lt-leb (section_sizes ss) (length output) short)

  pub written_fits : section_sizes ss ≤ length output
      → written base ss output
      ≡ record { number = 0; value = section_sizes ss; output = overwrite output 0 (file_bytes base ss) }
  unfolding written
  written_fits fits = rw (written, le-leb (section_sizes ss) (length output) fits)

  -- the output after it: the file, and the bytes beyond it as they were
  pub written_output : section_sizes ss ≤ length output
      → (written base ss output).output ≡ file_bytes base ss ++ drop (section_sizes ss) output
  written_output fits =
      let size : 0 + length (file_bytes base ss) ≡ section_sizes ss = omega (arith, file_length base ss) in
      ap (λ (b : Built). b.output) (written_fits fits) ∙ ap (λ (n : ℕ). file_bytes base ss ++ drop n output) size

  pub written_file : section_sizes ss ≤ length output → file_of (written base ss output) ≡ file_bytes base ss
  written_file fits =
      ap₂ (λ (n : ℕ) (bs : List ℕ). take n bs)
      (ap (λ (b : Built). b.value) (written_fits fits) ∙ sym (file_length base ss))
      (written_output fits)
      ∙ take-append_seam (file_bytes base ss) (drop (section_sizes ss) output)

-- ---- every outcome is a refusal, which leaves the output, or some sections written

pub none_or_some : {A : Type 0} (o : Option A) → (o ≡ none) ⊎ ((x : A) × (o ≡ some x))
none_or_some none = inl refl
none_or_some (some x) = inr (x, refl)

module _ (P : Built → Type 0) (sizes : Sizes) (base : ℕ) (identity : Identity) (output : List ℕ)
    (refused : (number value : ℕ) → (number ≡ 0 → ⊥) → P (refusal number value output))
    (success : (ss : List Section) → section_sizes ss ≤ length output → P (written base ss output)) where
  written_is : (ss : List Section) → P (written base ss output)
  written_is ss =
      ⊎_elim (success ss)
      (λ short. subst P (sym (written_short base ss output short))
      (refused 11 (section_sizes ss) (λ e. omega arith)))
      (le_or_lt (section_sizes ss) (length output))

  events_is : (es : List Event) → P (build_events sizes base identity es output)
  events_is es =
      ⊎_elim
      (λ packable. subst P (sym (events_written sizes base identity es output packable))
      (written_is (sections_of sizes identity es)))
      (λ (index, lowest). subst P (sym (events_refused sizes base identity es output index lowest))
      (refused 10 index (λ e. omega arith)))
      (none_or_some (lowest_unpackable sizes es))

  pub build_is : (pools : Pools) (list : EventList) → P (build sizes pools list base identity output)
  build_is pools list =
      ⊎_elim (λ day. ⊎_elim (λ legal. ⊎_elim
      (λ is. subst P (sym (build_sound sizes pools list base identity output day legal is))
      (events_is (events_of pools list)))
      (λ unsound. subst P (sym (build_unsound sizes pools list base identity output day legal unsound))
      (refused 12 0 (λ e. omega arith)))
      (test_or (sound sizes pools list)))
      (λ above. subst P (sym (build_version sizes pools list base identity output day above))
      (refused 2 0 (λ e. omega arith)))
      (test_or (are_versions identity.versions)))
      (λ above. subst P (sym (build_base sizes pools list base identity output above)) (refused 1 0 (λ e. omega arith)))
      (le_or_lt base base_day_max)

-- ---- a sound list without an unpackable segment is answered with neither 12 nor 10

module _ (sizes : Sizes) (pools : Pools) (list : EventList) (base : ℕ) (identity : Identity) (output : List ℕ) where
  abbrev Packs : Built → Type 0
  Packs b = (b.number ≡ 12 → ⊥) × (b.number ≡ 10 → ⊥)

  written_packs : (ss : List Section) → Packs (written base ss output)
  written_packs ss =
      ⊎_elim (λ fits. subst Packs (sym (written_fits base ss output fits)) (λ e. omega arith, λ e. omega arith))
      (λ short. subst Packs (sym (written_short base ss output short)) (λ e. omega arith, λ e. omega arith))
      (le_or_lt (section_sizes ss) (length output))

  pub build_packs : T (sound sizes pools list) → lowest_unpackable sizes (events_of pools list) ≡ none
      → Packs (build sizes pools list base identity output)
  build_packs is ends =
      ⊎_elim (λ day. ⊎_elim
      (λ legal.
      subst Packs
      (sym (build_sound sizes pools list base identity output day legal is
      ∙ events_written sizes base identity (events_of pools list) output ends))
      (written_packs (sections_of sizes identity (events_of pools list))))
      (λ above. subst Packs (sym (build_version sizes pools list base identity output day above))
      (λ e. omega arith, λ e. omega arith))
      (test_or (are_versions identity.versions)))
      (λ above. subst Packs (sym (build_base sizes pools list base identity output above))
      (λ e. omega arith, λ e. omega arith))
      (le_or_lt base base_day_max)

-- ---- what Build leaves

module _ (sizes : Sizes) (pools : Pools) (list : EventList) (base : ℕ) (identity : Identity) (output : List ℕ) where
  -- a refusal leaves the output
  pub build_leaves : ((build sizes pools list base identity output).number ≡ 0 → ⊥)
      → (build sizes pools list base identity output).output ≡ output
  build_leaves =
      build_is (λ (b : Built). (b.number ≡ 0 → ⊥) → b.output ≡ output) sizes base identity output
      (λ number value refused not-zero. refl)
      (λ ss fits not-zero. absurd (not-zero (ap (λ (b : Built). b.number) (written_fits base ss output fits))))
      pools list

  -- bytes beyond the file stay
  pub build_beyond : (build sizes pools list base identity output).number ≡ 0
      → let b = build sizes pools list base identity output in
      b.output ≡ file_of b ++ drop b.value output
  build_beyond =
      build_is (λ (b : Built). b.number ≡ 0 → b.output ≡ file_of b ++ drop b.value output) sizes base identity
      output
      (λ number value refused zero. absurd (refused zero))
      (λ ss fits zero.
      written_output base ss output fits
      ∙ ap₂ (λ (bs : List ℕ) (n : ℕ). bs ++ drop n output) (sym (written_file base ss output fits))
      (sym (ap (λ (b : Built). b.value) (written_fits base ss output fits))))
      pools list
