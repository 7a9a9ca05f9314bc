-- What Rebuild answers, by what the calls before have found: Read of the previous file, Build under its identity, and
-- the next versions of all tables. Assumes nothing.
use mathlib.Core.Path.{◌≡◌, sym, ap, ap₂, subst, ◌∙◌}
use mathlib.Core.Logic.{⊎_elim}
use mathlib.Core.List.{List}
use Prim.Native.Nat.{ℕ, ◌≤◌}
use native.Mathlib.Omega.{arith}
use lib.Dec.{T}
use lib.ListN.{length, take}
use Rattle.std.specs.Prelude.{Ok, Err}
use Rattle.std.proofs.Common.{rules}
use Rattle.eit.specs.declared.Sizes.{Sizes}
use Rattle.eit.specs.Limits.{base_day_max}
use Rattle.eit.specs.Identity.{tables}
use Rattle.eit.specs.Fields.{Bytes}
use Rattle.eit.specs.Overwrite.{overwrite}
use Rattle.eit.specs.Pools.{Pools}
use Rattle.eit.specs.Records.{EventList}
use Rattle.eit.specs.Sound.{sound}
use Rattle.eit.specs.declared.Identity.{Identity}
use Rattle.eit.proofs.Test.{test_or, le_or_lt}
use Rattle.eit.proofs.Overwrite.{over_length}
use Rattle.sections.specs.Segment.{table_first}
use Rattle.sections.specs.Section.{Section, section_sizes}
use Rattle.sections.specs.Encode.{file_bytes}
use Rattle.sections.specs.Decode.{split_file, sections_in}
use Rattle.sections.specs.Rules.{Rules}
use Rattle.sections.specs.Read.{Answer, check_file}
use Rattle.sections.specs.Exact.{ZeroWhereAbsent}
use Rattle.sections.proofs.Lengths.{file_length}
use Rattle.sections.proofs.Read.{check_succeeded}
use Rattle.sections.proofs.Exact.{accepted_parts}
use Rattle.schedule.specs.Build.{Built, are_versions, build, file_of}
use Rattle.schedule.specs.Rebuild.{next_identity, rebuild}
use Rattle.schedule.specs.Given.{Given}
use Rattle.schedule.proofs.Build.{legal_versions, build_base, build_unsound, written_fits}
use Rattle.schedule.proofs.Given.{LegalSizes, own_sections, own_file, own_rules, writes}
use Rattle.schedule.proofs.Rebuild.{identity_after, rebuild_refused, rebuild_builds, next_rules, next_triplet}
use Rattle.schedule.proofs.Rebuild.{refused_both, written_both}
use Rattle.read_answer.specs.Outcome as read
use Rattle.read_answer.specs.declared.FileRead.{FileRead}
use Rattle.read_answer.specs.declared.ReadError.{ReadError}
use Rattle.build_answer.specs.Outcome as build
use Rattle.build_answer.specs.declared.BuildError.{BuildError}
use Rattle.rebuild.specs.Outcome.{outcome_of}
use Rattle.rebuild.specs.Tables.{RisingFrom, next_versions_by}
use Rattle.rebuild.specs.declared.RebuildError.TheVariants.{Previous, Build}
use Rattle.rebuild.proofs.FileLaws.{tables_rise, next_versions}

-- a refusal has another number than success
read_never_0 : (error : ReadError) → read.error_number error ≡ 0 → ⊥
read_never_0 = search rules

build_never_0 : (error : BuildError) → build.error_number error ≡ 0 → ⊥
build_never_0 = search rules

module _ (sizes : Sizes) (previous : List ℕ) (day : ℕ) (pools : Pools) (list : EventList) (base : ℕ)
    (output : List ℕ)
  where
    abbrev answer : Built
    answer = rebuild sizes previous day pools list base output

    -- Read refuses the previous file
    pub answer_previous : (error : ReadError) → check_file sizes day previous ≡ read.outcome_of (Err error)
        → answer ≡ outcome_of (Err (Previous error)) output
    answer_previous error checked =
        rebuild_refused sizes previous day pools list base output
        (λ zero. read_never_0 error (sym (ap (λ (a : Answer). a.number) checked) ∙ zero))
        ∙ ap (λ (a : Answer). record { number = a.number; value = a.value; output = output }) checked

    module _ (bytes : Bytes previous) (found : FileRead)
        (checked : check_file sizes day previous ≡ read.outcome_of (Ok found))
      where
        zero : (check_file sizes day previous).number ≡ 0
        zero = ap (λ (a : Answer). a.number) checked

        abbrev old : Identity
        old = (check_file sizes day previous).identity

        old_is : old ≡ found.identity
        old_is = ap (λ (a : Answer). a.identity) checked

        abbrev ps : List Section
        ps = sections_in day previous

        parts : Rules sizes old ps × ZeroWhereAbsent old ps × (file_bytes day ps ≡ previous)
        parts = accepted_parts sizes day previous bytes zero

        -- there are sixteen versions
        pub sixteen : length found.identity.versions ≡ tables
        sixteen = subst (λ (i : Identity). length i.versions ≡ tables) old_is parts.0.identity_rules.sixteen

        abbrev new : Identity
        new = identity_after sizes previous day pools list base

        old_legal : T (are_versions old.versions)
        old_legal = legal_versions old.versions parts.0.identity_rules.version_rules

        new_legal : T (are_versions new.versions)
        new_legal = legal_versions new.versions (next_rules old previous _ parts.0.identity_rules).version_rules

        builds_new : answer ≡ build sizes pools list base new output
        builds_new = rebuild_builds sizes previous day pools list base output zero

        module _ {b : Built} (builds : build sizes pools list base found.identity output ≡ b) where
          builds_old : build sizes pools list base old output ≡ b
          builds_old = ap (λ (i : Identity). build sizes pools list base i output) old_is ∙ builds

        -- Build refuses the new list
        pub answer_refused : (error : BuildError) (written : List ℕ)
            → build sizes pools list base found.identity output ≡ build.outcome_of (Err error) written
            → answer ≡ outcome_of (Err (Build error)) written
        answer_refused error written builds =
            builds_new
            ∙ refused_both sizes pools list base old new output old_legal new_legal
            (λ none. build_never_0 error (sym (ap (λ (b : Built). b.number) (builds_old builds)) ∙ none))
            ∙ builds_old builds

        module _ (legal : LegalSizes sizes) (day_bytes : Bytes pools.day) (series_bytes : Bytes pools.series)
            (size : ℕ) (written : List ℕ)
            (builds : build sizes pools list base found.identity output ≡ build.outcome_of (Ok size) written)
          where
            built_old : build sizes pools list base old output ≡ build.outcome_of (Ok size) written
            built_old = builds_old builds

            none : (build sizes pools list base old output).number ≡ 0
            none = ap (λ (b : Built). b.number) built_old

            size_is : size ≡ (build sizes pools list base old output).value
            size_is = sym (ap (λ (b : Built). b.value) built_old)

            legal_base_holds : base ≤ base_day_max
            legal_base_holds =
                ⊎_elim (λ few. few)
                (λ above. absurd (omega
                (arith, none, ap (λ (b : Built). b.number) (build_base sizes pools list base old output above))))
                (le_or_lt base base_day_max)

            is_sound_holds : T (sound sizes pools list)
            is_sound_holds =
                ⊎_elim (λ is. is)
                (λ unsound. absurd (omega (
                  arith,
                  none,
                  ap (λ (b : Built). b.number)
                      (build_unsound sizes pools list base old output legal_base_holds old_legal unsound),
                )))
                (test_or (sound sizes pools list))

            abbrev g : Given sizes
            g =
                record {
                  pools = pools;
                  list = list;
                  base = base;
                  identity = old;
                  day_bytes = day_bytes;
                  series_bytes = series_bytes;
                  is_sound = is_sound_holds;
                  legal_base = legal_base_holds;
                  legal_identity = parts.0.identity_rules;
                }

            file_is : take size written ≡ own_file g
            file_is = sym (ap file_of built_old) ∙ (writes g output none).3

            -- the file is in the output
            pub size_inside : size ≤ length written
            size_inside =
                let (fits, is, enough, file) = writes g output none in
                let here = is ∙ written_fits base (own_sections g) output enough in
                let value : size ≡ section_sizes (own_sections g) =
                size_is ∙ ap (λ (b : Built). b.value) here in
                let out : written ≡ overwrite output 0 (file_bytes base (own_sections g)) =
                sym (ap (λ (b : Built). b.output) built_old) ∙ ap (λ (b : Built). b.output) here in
                omega (
                  arith,
                  ap length out,
                  over_length output 0 (file_bytes base (own_sections g))
                      (omega (arith, file_length base (own_sections g))),
                )

            module _ (next : List ℕ)
                (found-next : RisingFrom table_first (split_file previous)
                → RisingFrom table_first (split_file (take size written))
                → next ≡ next_versions_by previous (take size written) found.identity.versions) where
              -- they are the definition's
              next_is : next ≡ new.versions
              next_is =
                  let own : Rules sizes old (own_sections g) = own_rules legal g (writes g output none).0 in
                  let past : day ≤ base_day_max = (check_succeeded sizes day previous zero).0 in
                  let rises : RisingFrom table_first (split_file previous) =
                  subst (λ (f : List ℕ). RisingFrom table_first (split_file f)) parts.2
                  (tables_rise sizes day legal.most past old ps parts.0) in
                  let also : RisingFrom table_first (split_file (take size written)) =
                  subst (λ (f : List ℕ). RisingFrom table_first (split_file f)) (sym file_is)
                  (tables_rise sizes base legal.most legal_base_holds old (own_sections g) own) in
                  found-next rises also
                  ∙ (λ i. next_versions_by previous (file_is i) (sym old_is i).versions)
                  ∙ ap (λ (f : List ℕ). next_versions_by f (own_file g) old.versions) (sym parts.2)
                  ∙ next_versions sizes legal.most old day past ps parts.0 parts.1 base legal_base_holds
                  (own_sections g) own
                  ∙ ap (λ (f : List ℕ). (next_identity old f (own_file g)).versions) parts.2

              new_is : new ≡ record { triplet = found.identity.triplet; versions = next }
              new_is =
                  let triplet : new.triplet ≡ found.identity.triplet =
                  next_triplet old previous _ ∙ ap (λ (i : Identity). i.triplet) old_is in
                  λ i. record { triplet = triplet i; versions = sym next_is i }

              -- where none has changed the file is written already
              pub answer_kept : next ≡ found.identity.versions → answer ≡ outcome_of (Ok size) written
              answer_kept same =
                  builds_new
                  ∙ ap (λ (i : Identity). build sizes pools list base i output)
                  (new_is ∙ (λ i. record { triplet = found.identity.triplet; versions = same i }))
                  ∙ builds

              -- else it is written once more
              pub answer_changed : {b : Built}
                  → build sizes pools list base (record { triplet = found.identity.triplet; versions = next }) written
                  ≡ b
                  → answer ≡ b
              answer_changed again =
                  builds_new
                  ∙ sym (written_both sizes pools list base old new output old_legal new_legal none)
                  ∙ ap₂ (λ (i : Identity) (o : List ℕ). build sizes pools list base i o) new_is
                  (ap (λ (b : Built). b.output) built_old)
                  ∙ again
