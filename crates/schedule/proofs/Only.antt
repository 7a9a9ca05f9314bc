-- Under its identity Build's file is the only best one: any that carries the same events and is as good in every
-- segment is this one. Since it is best, the counts are the same; they tell the events of each section, and these the
-- file. Assumes nothing.
use mathlib.Core.Path.{◌≡◌, sym, ap, subst, ◌∙◌}
use mathlib.Core.List.{List}
use Prim.Native.Nat.{ℕ, ◌≤◌}
use native.Mathlib.Omega.{arith}
use lib.ListN.{length, length-map}
use Rattle.eit.specs.declared.Sizes.{Sizes}
use Rattle.eit.specs.declared.Identity.{Identity}
use Rattle.packing.specs.Greedy.{held}
use Rattle.packing.proofs.Joined.{parts_only}
use Rattle.sections.specs.Section.{Section, events_by_section, section_events}
use Rattle.sections.specs.Encode.{file_bytes}
use Rattle.sections.specs.Rules.{Rules}
use Rattle.sections.specs.Decode.{sections_in}
use Rattle.sections.specs.Count.{segment_events, segment_sections, sections_counted, events_counted}
use Rattle.sections.specs.Read.{check_file}
use Rattle.sections.proofs.Count.{counted_is, held_is}
use Rattle.sections.specs.Exact.{SameUpTo}
use Rattle.sections.proofs.Only.{sections_only}
use Rattle.sections.proofs.Tables.{same_rules}
use Rattle.schedule.specs.Extent.{last_table_id_of}
use Rattle.schedule.specs.Build.{file_of}
use Rattle.schedule.specs.Given.{Given, built, events, Carries}
use Rattle.schedule.proofs.Rival.{segment_packing, segment_parts, first_held}
use Rattle.schedule.proofs.Given.{LegalSizes, shown_rules, own_sections, own_rules, own_last, own_events}
use Rattle.schedule.proofs.Given.{own_counted, own_held}
use Rattle.schedule.proofs.Given.{writes, rival_rules, rival_events}
use Rattle.schedule.proofs.BestFile.{fewest, most}

-- ---- two files with the same events

module _ (sizes : Sizes) (identity : Identity) (ss ts : List Section)
    (ours : Rules sizes identity ss) (theirs : Rules sizes identity ts)
    (same : section_events ss ≡ section_events ts) where
  -- counts tell the parts of a segment
  counts_only : (index : ℕ) → length (segment_sections index ss) ≡ length (segment_sections index ts)
      → ((k : ℕ) → k ≤ 8
      → held k (events_by_section (segment_sections index ss)) ≡ held k (events_by_section (segment_sections index ts)))
      → events_by_section (segment_sections index ss) ≡ events_by_section (segment_sections index ts)
  counts_only index many held_same =
      parts_only (events_by_section (segment_sections index ss)) (events_by_section (segment_sections index ts))
      ((segment_packing sizes identity ss ours index).ordered
      ∙ ap (segment_events index) same
      ∙ sym (segment_packing sizes identity ts theirs index).ordered)
      (length-map (segment_sections index ss) (λ (s : Section). s.events)
      ∙ many
      ∙ sym (length-map (segment_sections index ts) (λ (s : Section). s.events)))
      (λ k few. held_same k (omega (arith, segment_parts sizes identity ss ours index)))

-- ---- the law

module _ (sizes : Sizes) (legal : LegalSizes sizes) (g : Given sizes) (output : List ℕ)
    (zero : (built g output).number ≡ 0)
    (file : List ℕ) (c : Carries g file) where
  -- with the same triplet and the same versions of its tables, with no more sections in any segment and no fewer events
  -- in its first k, a file is Build's, byte for byte
  pub built_only : SameUpTo (last_table_id_of (events g)) g.identity (check_file sizes g.base file).identity
      → ((index : ℕ) → sections_counted g.base file index ≤ sections_counted g.base (file_of (built g output)) index)
      → ((index k : ℕ) → k ≤ 8
      → events_counted g.base (file_of (built g output)) index k ≤ events_counted g.base file index k)
      → file ≡ file_of (built g output)
  built_only sameIdentity few as_many =
      let (fits, is, enough, own) = writes g output zero in
      let ss : List Section = sections_in g.base file in
      let ts : List Section = own_sections g in
      let identity : Identity = (check_file sizes g.base file).identity in
      let ours : Rules sizes identity ss = rival_rules g file c in
      let theirs : Rules sizes identity ts =
      same_rules sizes g.identity identity ts (own_rules legal g fits) ours.identity_rules
      (subst (λ (l : ℕ). SameUpTo l g.identity identity) (sym (own_last legal g fits)) sameIdentity) in
      let same : ss ≡ ts =
      sections_only sizes identity ss ts ours theirs
      (λ index. counts_only sizes identity ss ts ours theirs
      (rival_events g file c ∙ sym (own_events g fits)) index
      (omega (
        arith,
        few index,
        fewest sizes legal g output zero file c index,
        counted_is g.base file index,
        ap (λ (f : List ℕ). sections_counted g.base f index) own,
        own_counted legal g fits index,
      ))
      (λ k eight. omega (
        arith,
        as_many index k eight,
        most sizes legal g output zero file c index k eight,
        held_is g.base file index k,
        ap (λ (f : List ℕ). events_counted g.base f index k) own,
        own_held legal g fits index k,
        first_held sizes identity ss ours index k eight,
        first_held sizes identity ts theirs index k eight,
      ))) in
      sym (shown_rules sizes g.base file c.bytes c.accepted).1 ∙ ap (file_bytes g.base) same ∙ sym own
