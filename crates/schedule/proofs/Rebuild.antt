-- What Rebuild answers, case by case, and the versions that it builds under; and what Build does under another
-- identity: the same refusals, and a file of the same length. By the tests of the definitions. Assumes nothing.
use mathlib.Core.Path.{◌≡◌, refl, sym, ap, ◌∙◌}
use mathlib.Core.Bool.{Bool, true, false}
use mathlib.Core.Logic.{◌⊎◌, inl, inr, ⊎_elim}
use mathlib.Core.List.{List, [], ◌∷◌}
use Prim.Native.Nat.{ℕ, ◌+◌, ◌-◌, ◌%◌, ◌≤◌, ◌<◌}
use native.Mathlib.Omega.{arith}
use borrow.Author.Tests.{eq-eqb, ne_eqb}
use lib.Dec.{T}
use lib.ListN.{length}
use Rattle.eit.specs.declared.Sizes.{Sizes}
use Rattle.eit.specs.Limits.{base_day_max, version_max}
use Rattle.eit.specs.Identity.{tables}
use Rattle.eit.specs.SameList.{same_list}
use Rattle.eit.specs.Overwrite.{overwrite}
use Rattle.eit.specs.Pools.{Pools}
use Rattle.eit.specs.Records.{EventList}
use Rattle.eit.specs.Events.{Event}
use Rattle.eit.specs.Sound.{sound, events_of}
use Rattle.eit.specs.declared.Identity.{Identity}
use Rattle.eit.proofs.Test.{true_is, false_is, test_or, le_or_lt}
use Rattle.eit.proofs.SameList.{same_list_holds, same_test}
use Rattle.eit.proofs.Overwrite.{over_length, over_again}
use Rattle.sections.specs.Segment.{table_first, table_max}
use Rattle.sections.specs.Section.{version_of, Section, section_sizes}
use Rattle.sections.specs.Encode.{file_bytes}
use Rattle.sections.specs.Rules.{IdentityRules}
use Rattle.sections.specs.Read.{check_file}
use Rattle.sections.proofs.Lengths.{file_length}
use Rattle.sections.proofs.Each.{each_length, each_at, each_every}
use Rattle.sections.proofs.Version.{version_of_holds, version_fits}
use Rattle.schedule.specs.SectionsOf.{lowest_unpackable, sections_of}
use Rattle.schedule.specs.Build.{Built, refusal, written, are_versions, build}
use Rattle.schedule.specs.Rebuild.{table_sections, table_bytes, next_version, next_identity, rebuild}
use Rattle.schedule.proofs.Build.{build_base, build_unsound, build_sound, events_refused, events_written}
use Rattle.schedule.proofs.Build.{none_or_some, written_short, written_fits}
use Rattle.schedule.proofs.UnderIdentity.{sizes_same}

-- ---- the two cases

-- the identity that it builds under
abbrev pub identity_after : Sizes → List ℕ → ℕ → Pools → EventList → ℕ → Identity
identity_after sizes previous day pools list base =
    let identity = (check_file sizes day previous).identity in
    next_identity identity previous (file_bytes base (sections_of sizes identity (events_of pools list)))

module _ (sizes : Sizes) (previous : List ℕ) (day : ℕ) (pools : Pools) (list : EventList) (base : ℕ)
    (output : List ℕ) where
  pub rebuild_refused : ((check_file sizes day previous).number ≡ 0 → ⊥)
      → rebuild sizes previous day pools list base output
      ≡ refusal (check_file sizes day previous).number (check_file sizes day previous).value output
  unfolding rebuild
  rebuild_refused some = rw (rebuild, ne_eqb (check_file sizes day previous).number 0 some)

  pub rebuild_builds : (check_file sizes day previous).number ≡ 0
      → rebuild sizes previous day pools list base output
      ≡ build sizes pools list base (identity_after sizes previous day pools list base) output
  unfolding rebuild
  rebuild_builds zero = rw (rebuild, eq-eqb (check_file sizes day previous).number 0 zero)

-- ---- the next versions

module _ (identity : Identity) (previous file : List ℕ) where
  pub next_new : (table : ℕ) → table_sections table previous ≡ [] → next_version identity previous file table ≡ 0
  unfolding next_version
  next_new table none = rw (next_version, none)

  -- of a table that was there
  next_there : (table : ℕ) (xs : List (List ℕ)) → table_sections table previous ≡ xs → (xs ≡ [] → ⊥) → (b : Bool)
      → same_list (table_bytes table previous) (table_bytes table file) ≡ b
      → next_version identity previous file table
      ≡ elim b [ true ↦ version_of identity table | false ↦ (version_of identity table + 1) % 32 ]
  unfolding next_version
  next_there table [] is there b same = absurd (there refl)
  next_there table (x ∷ xs) is there b same = rw (next_version, is, same)

  pub next_kept : (table : ℕ) → (table_sections table previous ≡ [] → ⊥)
      → table_bytes table previous ≡ table_bytes table file
      → next_version identity previous file table ≡ version_of identity table
  next_kept table there same =
      next_there table (table_sections table previous) refl there true
      (true_is _ (same_test (table_bytes table previous) (table_bytes table file) same))

  pub next_raised : (table : ℕ) → (table_sections table previous ≡ [] → ⊥)
      → (table_bytes table previous ≡ table_bytes table file → ⊥)
      → next_version identity previous file table ≡ (version_of identity table + 1) % 32
  next_raised table there other =
      ⊎_elim
      (λ same. absurd (other (same_list_holds (table_bytes table previous) (table_bytes table file) same)))
      (λ differ. next_there table (table_sections table previous) refl there false (false_is _ differ))
      (test_or (same_list (table_bytes table previous) (table_bytes table file)))

  next_few : (rules : IdentityRules identity) (table : ℕ) → next_version identity previous file table ≤ version_max
  next_few rules table =
      by (table_sections table previous) refl
    where
      raised_few : (n : ℕ) → (n + 1) % 32 ≤ version_max
      raised_few n = omega arith

      by : (xs : List (List ℕ)) → table_sections table previous ≡ xs
          → next_version identity previous file table ≤ version_max
      by [] none = rw (next_new table none) (omega arith)
      by (x ∷ xs) is =
          let there : table_sections table previous ≡ [] → ⊥ =
          λ none. let never : ◌≡◌ {A = ℕ} 0 1 = cc in omega arith in
          ⊎_elim
          (λ same. rw (next_there table (table_sections table previous) refl there true (true_is _ same))
          (version_fits identity table rules))
          (λ differ. rw (next_there table (table_sections table previous) refl there false (false_is _ differ))
          (raised_few (version_of identity table)))
          (test_or (same_list (table_bytes table previous) (table_bytes table file)))

  -- they are legal, as the versions before are
  pub next_rules : IdentityRules identity → IdentityRules (next_identity identity previous file)
  unfolding next_identity
  next_rules rules =
      record {
        triplet_rules = rules.triplet_rules;
        sixteen = each_length (next_version identity previous file) table_first tables;
        version_rules =
            each_every (λ (version : ℕ). version ≤ version_max) (next_version identity previous file) table_first tables
            (next_few rules);
      }

  pub next_triplet : (next_identity identity previous file).triplet ≡ identity.triplet
  unfolding next_identity
  next_triplet = refl

  pub next_at_holds : (table : ℕ) → table_first ≤ table → table ≤ table_max
      → version_of (next_identity identity previous file) table ≡ next_version identity previous file table
  unfolding next_identity
  next_at_holds table least most =
      version_of_holds (next_identity identity previous file) table
      ∙ each_at (next_version identity previous file) 0 table_first tables (table - table_first) (omega arith)
      ∙ ap (next_version identity previous file) (omega arith)

-- ---- Build under two identities

-- the number of a refusal that is not of the versions
abbrev Number : ℕ → Type 0
Number number = (number ≡ 0 → ⊥) × (number ≡ 2 → ⊥) × (number < 27)

module _ (sizes : Sizes) (pools : Pools) (list : EventList) (base : ℕ) (i j : Identity) (output : List ℕ)
    (legal : T (are_versions i.versions)) (legal' : T (are_versions j.versions)) where
  abbrev es : List Event
  es = events_of pools list

  abbrev ours : List Section
  ours = sections_of sizes i es

  abbrev theirs : List Section
  theirs = sections_of sizes j es

  -- what Build does under both: the same refusal, or each writes its sections
  under_both : ((number value : ℕ) × Number number
      × (build sizes pools list base i output ≡ refusal number value output)
      × ((other : List ℕ) → length other ≡ length output
      → build sizes pools list base j other ≡ refusal number value other))
      ⊎ ((section_sizes ours ≤ length output) × (build sizes pools list base i output ≡ written base ours output)
      × ((other : List ℕ) → build sizes pools list base j other ≡ written base theirs other))
  under_both =
      ⊎_elim (λ day. ⊎_elim
      (λ is. ⊎_elim
      (λ packable.
      let our : build sizes pools list base i output ≡ written base ours output =
      build_sound sizes pools list base i output day legal is ∙ events_written sizes base i es output packable in
      let their : (other : List ℕ) → build sizes pools list base j other ≡ written base theirs other =
      λ other. build_sound sizes pools list base j other day legal' is
      ∙ events_written sizes base j es other packable in
      ⊎_elim (λ fits. inr (fits, our, their))
      (λ short. inl (
        11,
        section_sizes ours,
        (λ e. omega arith, λ e. omega arith, omega arith),
        our ∙ written_short base ours output short,
        λ other size. their other ∙ written_short base theirs other (omega (arith, sizes_same sizes es i j))
            ∙ ap (λ (n : ℕ). refusal 11 n other) (sizes_same sizes es i j),
      ))
      (le_or_lt (section_sizes ours) (length output)))
      (λ (index, lowest). inl (
        10,
        index,
        (λ e. omega arith, λ e. omega arith, omega arith),
        build_sound sizes pools list base i output day legal is
            ∙ events_refused sizes base i es output index lowest,
        λ other size. build_sound sizes pools list base j other day legal' is
            ∙ events_refused sizes base j es other index lowest,
      ))
      (none_or_some (lowest_unpackable sizes es)))
      (λ unsound. inl (
        12,
        0,
        (λ e. omega arith, λ e. omega arith, omega arith),
        build_unsound sizes pools list base i output day legal unsound,
        λ other size. build_unsound sizes pools list base j other day legal' unsound,
      ))
      (test_or (sound sizes pools list)))
      (λ above. inl (
        1,
        0,
        (λ e. omega arith, λ e. omega arith, omega arith),
        build_base sizes pools list base i output above,
        λ other size. build_base sizes pools list base j other above,
      ))
      (le_or_lt base base_day_max)

  -- a refusal comes under both
  pub refused_both : ((build sizes pools list base i output).number ≡ 0 → ⊥)
      → build sizes pools list base j output ≡ build sizes pools list base i output
  refused_both refuses =
      ⊎_elim
      (λ (number, value, is, our, their). their output refl ∙ sym our)
      (λ (fits, our, their).
      absurd (refuses (ap (λ (b : Built). b.number) (our ∙ written_fits base ours output fits))))
      under_both

  -- and a file that was written under the one is written over under the other
  pub written_both : (build sizes pools list base i output).number ≡ 0
      → build sizes pools list base j (build sizes pools list base i output).output
      ≡ build sizes pools list base j output
  written_both zero =
      ⊎_elim
      (λ (number, value, is, our, their). absurd (is.0 (sym (ap (λ (b : Built). b.number) our) ∙ zero)))
      (λ (fits, our, their).
      let first : List ℕ = overwrite output 0 (file_bytes base ours) in
      let is : (build sizes pools list base i output).output ≡ first =
      ap (λ (b : Built). b.output) (our ∙ written_fits base ours output fits) in
      let size : length first ≡ length output =
      over_length output 0 (file_bytes base ours) (omega (arith, file_length base ours)) in
      let room : section_sizes theirs ≤ length output = omega (arith, sizes_same sizes es i j) in
      ap (build sizes pools list base j) is
      ∙ their first
      ∙ written_fits base theirs first (omega arith)
      ∙ ap (λ (o : List ℕ). record { number = 0; value = section_sizes theirs; output = o })
      (over_again output 0 (file_bytes base ours) (file_bytes base theirs)
      (omega (arith, file_length base ours, file_length base theirs, sizes_same sizes es i j)) (omega arith))
      ∙ sym (their output ∙ written_fits base theirs output room))
      under_both

-- with legal versions Build says neither 2 nor 27
pub never_version : (sizes : Sizes) (pools : Pools) (list : EventList) (base : ℕ) (identity : Identity)
    (output : List ℕ)
    → T (are_versions identity.versions)
    → let b = build sizes pools list base identity output in
    (b.number ≡ 2 → ⊥) × (b.number < 27)
never_version sizes pools list base identity output legal =
    ⊎_elim
    (λ (number, value, is, our, their).
    let told = ap (λ (b : Built). b.number) our in
    (λ two. is.1 (sym told ∙ two), omega (arith, told, is.2)))
    (λ (fits, our, their).
    let told =
    ap (λ (b : Built). b.number)
    (our ∙ written_fits base (sections_of sizes identity (events_of pools list)) output fits) in
    (λ two. omega arith, omega arith))
    (under_both sizes pools list base identity identity output legal legal)
