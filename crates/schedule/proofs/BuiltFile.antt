-- Laws of Build's file: it depends on the events alone, not on how records and pools hold them, and on the versions of
-- its own tables; its length is 18 bytes for each section and the bytes of the events; and Read of it, built again
-- under the identity read, gives the same bytes. Assumes nothing.
use mathlib.Core.Path.{◌≡◌, refl, sym, ap, ◌∙◌}
use mathlib.Core.Logic.{⊎_elim}
use mathlib.Core.List.{List, [], ◌∷◌, ◌++◌}
use mathlib.Core.Option.{none, some}
use Prim.Native.Nat.{ℕ, ◌+◌, ◌*◌}
use native.Mathlib.Omega.{arith}
use lib.Dec.{T}
use lib.ListN.{length}
use Rattle.eit.specs.Sizes.{section_overhead}
use Rattle.eit.specs.declared.Sizes.{Sizes}
use Rattle.eit.specs.Limits.{base_day_max}
use Rattle.eit.specs.Pools.{Pools}
use Rattle.eit.specs.Records.{EventList}
use Rattle.eit.specs.Events.{Event}
use Rattle.eit.specs.Sound.{sound, events_of}
use Rattle.eit.specs.declared.Identity.{Identity}
use Rattle.eit.proofs.Test.{test_or, le_or_lt}
use Rattle.sections.specs.Section.{Section, event_sizes, section_events, section_sizes}
use Rattle.sections.specs.Decode.{sections_in}
use Rattle.sections.specs.Offsets.{file_pools}
use Rattle.sections.specs.Read.{Answer, Reading, read, list_of}
use Rattle.sections.specs.Exact.{RecordBuffer, SameUpTo}
use Rattle.sections.proofs.Exact.{sections_in_back}
use Rattle.sections.proofs.FileSound.{accepted_events}
use Rattle.schedule.specs.Build.{Built, refusal, written, build_events, are_versions, build, file_of}
use Rattle.schedule.specs.Extent.{last_table_id_of}
use Rattle.schedule.specs.SectionsOf.{lowest_unpackable}
use Rattle.schedule.specs.Given.{Given, built, events, Carries}
use Rattle.schedule.specs.Demands.{DemandsFor}
use Rattle.schedule.proofs.Build.{legal_versions, build_base, build_version, build_unsound, build_sound}
use Rattle.schedule.proofs.Build.{written_fits}
use Rattle.schedule.proofs.UnderIdentity.{sections_same}
use Rattle.schedule.proofs.Given.{LegalSizes, own_sections, own_rules, own_events, own_identity}
use Rattle.schedule.proofs.Given.{own_versions, own_same, writes, rival_events}
use Rattle.schedule.proofs.Demands.{demands_for}

-- Build of two sound lists with the same events is the same, for every base day, identity and output
pub events_alone : (sizes : Sizes) (p q : Pools) (list other : EventList) (base : ℕ) (identity : Identity)
    (output : List ℕ)
    → T (sound sizes p list) → T (sound sizes q other) → events_of p list ≡ events_of q other
    → build sizes p list base identity output ≡ build sizes q other base identity output
events_alone sizes p q list other base identity output is also same =
    ⊎_elim (λ day. ⊎_elim
    (λ legal.
    build_sound sizes p list base identity output day legal is
    ∙ ap (λ (es : List Event). build_events sizes base identity es output) same
    ∙ sym (build_sound sizes q other base identity output day legal also))
    (λ above. build_version sizes p list base identity output day above
    ∙ sym (build_version sizes q other base identity output day above))
    (test_or (are_versions identity.versions)))
    (λ above. build_base sizes p list base identity output above
    ∙ sym (build_base sizes q other base identity output above))
    (le_or_lt base base_day_max)

-- and under two legal identities with the same triplet and the same versions of the tables that the file has
pub identities_alone : (sizes : Sizes) (pools : Pools) (list : EventList) (base : ℕ) (i j : Identity) (output : List ℕ)
    → T (are_versions i.versions) → T (are_versions j.versions)
    → SameUpTo (last_table_id_of (events_of pools list)) i j
    → build sizes pools list base i output ≡ build sizes pools list base j output
unfolding build_events
identities_alone sizes pools list base i j output legal legal' same =
    let es : List Event = events_of pools list in
    ⊎_elim (λ day. ⊎_elim
    (λ is.
    build_sound sizes pools list base i output day legal is
    ∙ ap
    (λ (ss : List Section). elim (lowest_unpackable sizes es) [
      | some index ↦ refusal 10 index output
      | none ↦ written base ss output
    ])
    (sections_same sizes es i j same)
    ∙ sym (build_sound sizes pools list base j output day legal' is))
    (λ unsound.
    build_unsound sizes pools list base i output day legal unsound
    ∙ sym (build_unsound sizes pools list base j output day legal' unsound))
    (test_or (sound sizes pools list)))
    (λ above.
    build_base sizes pools list base i output above ∙ sym (build_base sizes pools list base j output above))
    (le_or_lt base base_day_max)

-- ---- length

sizes_append : (es fs : List Event) → event_sizes (es ++ fs) ≡ event_sizes es + event_sizes fs
sizes_append [] fs = omega arith
sizes_append (e ∷ es) fs = omega (arith, sizes_append es fs)

sizes_split : (ss : List Section) → section_sizes ss ≡ section_overhead * length ss + event_sizes (section_events ss)
unfolding section_events
sizes_split [] = refl
sizes_split (s ∷ ss) = omega (arith, sizes_split ss, sizes_append s.events (section_events ss))

module _ (sizes : Sizes) (legal : LegalSizes sizes) (g : Given sizes) (output : List ℕ)
    (zero : (built g output).number ≡ 0) where
  -- the file's length is 18 × sections + the events' bytes
  pub built_bytes_holds : (built g output).value
      ≡ 18 * length (sections_in g.base (file_of (built g output))) + event_sizes (events g)
  built_bytes_holds =
      let (fits, is, enough, file) = writes g output zero in
      let ss : List Section = own_sections g in
      let shown : sections_in g.base (file_of (built g output)) ≡ ss =
      ap (sections_in g.base) file
      ∙ sections_in_back sizes g.base legal.most g.legal_base g.identity ss (own_rules legal g fits) in
      omega (
        arith,
        ap (λ (b : Built). b.value) (is ∙ written_fits g.base ss output enough),
        sizes_split ss,
        ap length shown,
        ap event_sizes (own_events g fits),
      )

  -- Read of the file, built again under the identity read, gives the same answer and the same output
  pub built_again : (buffer series : List ℕ) → RecordBuffer buffer
      → let r = read sizes g.base (file_of (built g output)) buffer in
      build sizes (file_pools (file_of (built g output)) series) (list_of r) g.base r.answer.identity output
      ≡ built g output
  built_again buffer series size =
      let all : DemandsFor sizes = demands_for sizes legal in
      let file : List ℕ = file_of (built g output) in
      let r : Reading = read sizes g.base file buffer in
      let c : Carries g file = all.built_carries g output zero in
      ap (λ (i : Identity). build sizes (file_pools file series) (list_of r) g.base i output)
      (ap (λ (a : Answer). a.identity) (all.built_read g output buffer zero size))
      ∙ events_alone sizes (file_pools file series) g.pools (list_of r) g.list g.base (own_identity legal g)
      output
      (all.accepted_sound g.base file series buffer c.bytes c.accepted size) g.is_sound
      (accepted_events sizes g.base file buffer series c.bytes (c.accepted buffer size) ∙ rival_events g file c)
      ∙ identities_alone sizes g.pools g.list g.base (own_identity legal g) g.identity output
      (own_versions legal g) (legal_versions g.identity.versions g.legal_identity.version_rules)
      (own_same legal g)
