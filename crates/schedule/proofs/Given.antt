-- What Build does with what it is given, and what any accepted file that carries the events does: the two sides that
-- the demands compare. Assumes nothing.
use mathlib.Core.Path.{◌≡◌, sym, ap, subst, ◌∙◌}
use mathlib.Core.Bool.{not}
use mathlib.Core.Logic.{◌⊎◌, inl, inr, ⊎_elim}
use mathlib.Core.List.{List, []}
use Prim.Native.Nat.{ℕ, suc, ◌+◌, ◌*◌, ◌≤◌, ◌<◌}
use native.Mathlib.Omega.{arith}
use lib.Dec.{T}
use lib.ListN.{length}
use Rattle.eit.specs.Sizes.{section_overhead}
use Rattle.eit.specs.declared.Sizes.{Sizes}
use Rattle.eit.specs.Fields.{Bytes}
use Rattle.eit.specs.Records.{record_size}
use Rattle.eit.specs.Identity.{tables}
use Rattle.eit.specs.Events.{Event}
use Rattle.eit.specs.declared.Identity.{Identity}
use Rattle.eit.proofs.Test.{le_or_lt}
use Rattle.eit.proofs.SameEvent.{same_lists}
use Rattle.sections.specs.Section.{Section, section_events, section_sizes}
use Rattle.sections.specs.Encode.{file_bytes}
use Rattle.sections.specs.Rules.{Rules}
use Rattle.sections.specs.Decode.{sections_in}
use Rattle.sections.specs.Count.{first_sections, segment_sections, sections_counted, events_counted}
use Rattle.sections.specs.Offsets.{file_pools}
use Rattle.sections.specs.Read.{Answer, check_file, read, list_of}
use Rattle.sections.specs.Exact.{accepted_numbers, Accepted, ZeroWhereAbsent, SameUpTo}
use Rattle.sections.specs.Segment.{table_first}
use Rattle.sections.proofs.Every.{every_map}
use Rattle.sections.proofs.Tables.{table_there, same_sym, same_rules}
use Rattle.sections.proofs.Exact.{accepted_rules, file_bytes_holds, sections_in_back, follows_shown}
use Rattle.sections.proofs.Accepted.{some_buffer, accepted_check, check_accepted}
use Rattle.sections.proofs.FileSound.{accepted_sound, accepted_events}
use Rattle.sections.proofs.Count.{sections_counted_holds, events_counted_holds}
use Rattle.schedule.specs.SectionsOf.{is_unpackable, sections_of}
use Rattle.schedule.specs.Build.{Built, refusal, written, build_events, are_versions, file_of}
use Rattle.schedule.specs.Given.{Given, built, events, with_tables, Carries, EightHold}
use Rattle.schedule.specs.Extent.{last_table, last_table_id_of}
use Rattle.schedule.proofs.SoundEvents.{EventFacts, SoundEvents, sound_events, starts_of}
use Rattle.schedule.proofs.Extent.{tables_few}
use Rattle.schedule.proofs.UnderIdentity.{with_tables_rules, with_tables_same, with_tables_absent}
use Rattle.schedule.proofs.Held.{sections_events}
use Rattle.schedule.proofs.BuiltRules.{built_rules, built_last}
use Rattle.schedule.proofs.Rival.{segment_eight_hold}
use Rattle.schedule.proofs.Build.{legal_versions, build_sound, events_refused, events_written, written_short}
use Rattle.schedule.proofs.Build.{written_file}
use Rattle.schedule.proofs.Packable.{packable_or}

-- ---- accepted files

-- the sections that the bytes of an accepted file show keep the rules, and their joined bytes are the file
pub shown_rules : (sizes : Sizes) (base : ℕ) (file : List ℕ) → Bytes file → Accepted sizes base file
    → Rules sizes (check_file sizes base file).identity (sections_in base file)
    × (file_bytes base (sections_in base file) ≡ file)
shown_rules sizes base file bytes accepted =
    accepted_rules sizes base file bytes (accepted_check sizes base file accepted)

-- ---- Build of what it is given

module _ {sizes : Sizes} (g : Given sizes) where
  pub facts : SoundEvents sizes (events g)
  facts = sound_events g.pools g.day_bytes g.series_bytes sizes g.list g.is_sound

  -- the sections and the bytes of its file
  abbrev pub own_sections : List Section
  own_sections = sections_of sizes g.identity (events g)

  abbrev pub own_file : List ℕ
  own_file = file_bytes g.base own_sections

  -- no segment is unpackable
  abbrev pub Fits : Type 0
  Fits = (index : ℕ) → T (not (is_unpackable sizes (events g) index))

  pub own_events : Fits → section_events own_sections ≡ events g
  own_events fits = sections_events sizes g.identity (events g) facts.rises fits

  -- the file is written where the output is long enough, for every output; or every output is answered with 10
  pub build_or : (Fits × ((output : List ℕ) → built g output ≡ written g.base own_sections output))
      ⊎ ((index : ℕ) × (index < 512) × T (is_unpackable sizes (events g) index)
      × ((lower : ℕ) → lower < index → T (not (is_unpackable sizes (events g) lower)))
      × ((output : List ℕ) → built g output ≡ refusal 10 index output))
  build_or =
      let sounds : (output : List ℕ) → built g output ≡ build_events sizes g.base g.identity (events g) output =
      λ output. build_sound sizes g.pools g.list g.base g.identity output g.legal_base
      (legal_versions g.identity.versions g.legal_identity.version_rules) g.is_sound in
      ⊎_elim
      (λ (ends, fits). inl
      (fits, λ output. sounds output ∙ events_written sizes g.base g.identity (events g) output ends))
      (λ (index, lowest, few, fails, before). inr (
        index,
        few,
        fails,
        before,
        λ output. sounds output ∙ events_refused sizes g.base g.identity (events g) output index lowest,
      ))
      (packable_or sizes (events g) (starts_of sizes (events g) facts))

  -- what Build that succeeds has written
  pub writes : (output : List ℕ) → (built g output).number ≡ 0
      → Fits × (built g output ≡ written g.base own_sections output) × (section_sizes own_sections ≤ length output)
      × (file_of (built g output) ≡ own_file)
  writes output zero =
      ⊎_elim
      (λ (fits, is). ⊎_elim
      (λ enough. (fits, is output, enough, ap file_of (is output) ∙ written_file g.base own_sections output enough))
      (λ short. absurd
      (omega (arith, ap (λ (b : Built). b.number) (is output ∙ written_short g.base own_sections output short))))
      (le_or_lt (section_sizes own_sections) (length output)))
      (λ (index, few, fails, before, is). absurd (omega (arith, ap (λ (b : Built). b.number) (is output))))
      build_or

-- ---- its file, where no segment is unpackable

-- sizes for which the demands hold: a section without events fits, 12 bits of section_length reach, and the numbers of
-- the largest list are no more than those for which a file is accepted
pub record LegalSizes (sizes : Sizes) : Type 0 where
  pub least : section_overhead ≤ sizes.section_limit
  pub most : sizes.section_limit ≤ 4_096
  pub few : sizes.event_limit * record_size ≤ accepted_numbers

-- 02, W-206: "any section size from 30 to 4,096", with at most 2,048 events
pub legal_sizes : (sizes : Sizes) → 30 ≤ sizes.section_limit → sizes.section_limit ≤ 4_096
    → sizes.event_limit ≤ 2_048
    → LegalSizes sizes
legal_sizes sizes least most few = record { least = omega arith; most = most; few = omega arith }

module _ {sizes : Sizes} (legal : LegalSizes sizes) (g : Given sizes) where
  pub own_rules : Fits g → Rules sizes g.identity (own_sections g)
  own_rules fits = built_rules sizes g.identity (events g) legal.least g.legal_identity (facts g) fits

  pub own_last : (fits : Fits g) → (own_rules fits).last_table_id ≡ last_table_id_of (events g)
  unfolding own_rules
  own_last fits = built_last sizes g.identity (events g) legal.least g.legal_identity (facts g) fits

  pub own_carries : Fits g → Carries g (own_file g)
  own_carries fits =
      let rules = own_rules fits in
      let accepted : Accepted sizes g.base (own_file g) =
      check_accepted sizes g.base (own_file g) legal.few
      (ap (λ (a : Answer). a.number)
      (follows_shown sizes g.base legal.most g.legal_base g.identity (own_sections g) rules)) in
      let bytes : Bytes (own_file g) =
      file_bytes_holds sizes g.base legal.most g.legal_base g.identity (own_sections g) rules in
      record {
        bytes = bytes;
        accepted = accepted;
        same_events = λ buffer size.
            (same_lists sizes (file_pools (own_file g) []) g.pools (list_of (read sizes g.base (own_file g) buffer))
            g.list
            (accepted_sound sizes g.base (own_file g) buffer [] bytes (accepted buffer size)) g.is_sound).0
            (accepted_events sizes g.base (own_file g) buffer [] bytes (accepted buffer size)
            ∙ ap section_events
            (sections_in_back sizes g.base legal.most g.legal_base g.identity (own_sections g) rules)
            ∙ own_events g fits);
      }

  -- the tables that it has, and the identity that Read returns
  own_tables : last_table (events g) < tables
  own_tables =
      tables_few (events g) (every_map (λ (e : Event) (f : EventFacts e). f.start) (events g) (facts g).facts)

  abbrev pub own_identity : Identity
  own_identity = with_tables (suc (last_table (events g))) g.identity

  pub own_versions : T (are_versions own_identity.versions)
  own_versions =
      legal_versions own_identity.versions
      (with_tables_rules (suc (last_table (events g))) own_tables g.identity g.legal_identity).version_rules

  pub own_same : SameUpTo (last_table_id_of (events g)) own_identity g.identity
  own_same =
      same_sym (last_table_id_of (events g)) g.identity own_identity
      (with_tables_same (suc (last_table (events g))) own_tables g.identity g.legal_identity
      (last_table_id_of (events g)) (omega arith))

  pub own_follows : Fits g → Rules sizes own_identity (own_sections g) × ZeroWhereAbsent own_identity (own_sections g)
  own_follows fits =
      let n : ℕ = suc (last_table (events g)) in
      let rules = own_rules fits in (
        same_rules sizes g.identity own_identity (own_sections g) rules
            (with_tables_rules n own_tables g.identity g.legal_identity)
            (with_tables_same n own_tables g.identity g.legal_identity rules.last_table_id
            (omega (arith, own_last fits))),
        λ table least nowhere. ⊎_elim
            (λ past. with_tables_absent n own_tables g.identity g.legal_identity table past)
            (λ inside. absurd (table_there sizes g.identity (own_sections g) rules table least
            (omega (arith, own_last fits)) nowhere))
            (le_or_lt (table_first + n) table),
      )

  -- its sections and events, counted
  pub own_counted : Fits g → (index : ℕ)
      → sections_counted g.base (own_file g) index ≡ length (segment_sections index (own_sections g))
  own_counted fits index =
      sections_counted_holds sizes g.base legal.most g.legal_base g.identity (own_sections g) (own_rules fits) index

  pub own_held : Fits g → (index k : ℕ)
      → events_counted g.base (own_file g) index k ≡ length (section_events (first_sections index k (own_sections g)))
  own_held fits index k =
      events_counted_holds sizes g.base legal.most g.legal_base g.identity (own_sections g) (own_rules fits) index k

-- ---- a file that carries the events

module _ {sizes : Sizes} (g : Given sizes) (file : List ℕ) (c : Carries g file) where
  pub rival_rules : Rules sizes (check_file sizes g.base file).identity (sections_in g.base file)
  rival_rules = (shown_rules sizes g.base file c.bytes c.accepted).0

  pub rival_events : section_events (sections_in g.base file) ≡ events g
  rival_events =
      let (buffer, size) = some_buffer accepted_numbers in
      let reads : (read sizes g.base file buffer).answer.number ≡ 0 = c.accepted buffer size in
      sym (accepted_events sizes g.base file buffer [] c.bytes reads)
      ∙ (same_lists sizes (file_pools file []) g.pools (list_of (read sizes g.base file buffer)) g.list
      (accepted_sound sizes g.base file buffer [] c.bytes reads) g.is_sound).1 (c.same_events buffer size)

  pub rival_eight : (index : ℕ) → EightHold sizes (events g) index
  rival_eight index =
      subst (λ (es : List Event). EightHold sizes es index) rival_events
      (segment_eight_hold sizes (check_file sizes g.base file).identity (sections_in g.base file) rival_rules
      index)
