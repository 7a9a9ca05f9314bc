-- The event bytes of the k-th section of a segment of Build's file are those of the k-th part of the packed segment:
-- the bytes of sections that keep the rules show headers and event loops, and a segment's sections stand in one row of
-- numbers. Assumes nothing.
use mathlib.Core.Path.{◌≡◌, refl, sym, ap, ◌∙◌}
use mathlib.Core.Bool.{Bool, true, false, not}
use mathlib.Core.Logic.{⊎_elim}
use mathlib.Core.List.{List, [], ◌∷◌, map}
use Prim.Native.Nat.{ℕ, zero, suc, ◌+◌, ◌≤◌, ◌<◌}
use native.Mathlib.Omega.{arith}
use lib.Dec.{T, eqb, eqb→eq, not_T, T_not}
use lib.ListN.{length, get_or}
use Rattle.eit.specs.declared.Sizes.{Sizes}
use Rattle.eit.specs.Sizes.{room}
use Rattle.eit.specs.Events.{Event, rising}
use Rattle.eit.specs.declared.Identity.{Identity}
use Rattle.eit.proofs.Test.{and_parts, and_both, true_is, false_is, test_or, eq_test}
use Rattle.sections.specs.Every.{Every}
use Rattle.sections.specs.Segment.{table_of, first_section}
use Rattle.sections.specs.Section.{Header, Section}
use Rattle.sections.specs.Encode.{event_loop_bytes, section_bytes}
use Rattle.sections.specs.Decode.{event_loop}
use Rattle.sections.specs.Rules.{SectionRules}
use Rattle.sections.specs.Count.{is_in_first, segment_events, segment_sections}
use Rattle.sections.proofs.RowBytes.{loop_none}
use Rattle.sections.proofs.SectionBack.{Legal, section_header, loop_back}
use Rattle.sections.proofs.Exact.{legal_file, split_file_back}
use Rattle.sections.proofs.Count.{first_in, first_more, first_same, events_same}
use Rattle.schedule.specs.Extent.{is_inside}
use Rattle.schedule.specs.SectionsOf.{packed, packed_segment, header_of, numbered_from, sections_of_segment, sections_of}
use Rattle.schedule.specs.Given.{Given, events}
use Rattle.schedule.proofs.SoundEvents.{EventFacts}
use Rattle.schedule.proofs.Extent.{held_inside}
use Rattle.schedule.proofs.Parts.{parts_few}
use Rattle.schedule.proofs.Segments.{sections_inside, sections_outside}
use Rattle.schedule.proofs.Given.{LegalSizes, facts, own_sections, own_file, Fits, own_rules}
use Rattle.window.specs.KthSection.{is_kth, kth_among, kth_event_bytes}

-- ---- sections and their bytes

-- the events of the k-th section of a segment, among some
abbrev kth_events : ℕ → ℕ → List Section → List Event
kth_events index k [] = []
kth_events index k (s ∷ ss) = elim (is_kth index k s.header) [ true ↦ s.events | false ↦ kth_events index k ss ]

-- the bytes of one of two sections' events
either_bytes : (base : ℕ) (b : Bool) (es fs : List Event) (xs ys : List ℕ)
    → xs ≡ event_loop_bytes base es → ys ≡ event_loop_bytes base fs
    → (elim b [ true ↦ xs | false ↦ ys ]) ≡ event_loop_bytes base (elim b [ true ↦ es | false ↦ fs ])
either_bytes base true es fs xs ys first second = first
either_bytes base false es fs xs ys first second = second

module _ (sizes : Sizes) (base : ℕ) (identity : Identity) (last_table_id : ℕ)
    (legal : Legal sizes base identity last_table_id) (index k : ℕ) where
  among_bytes : (ss : List Section) → Every (SectionRules sizes identity last_table_id) ss
      → kth_among index k (map (section_bytes base) ss) ≡ event_loop_bytes base (kth_events index k ss)
  among_bytes [] rules = sym (loop_none base)
  among_bytes (s ∷ ss) rules =
      let bs : List ℕ = section_bytes base s in
      let rest : List ℕ = kth_among index k (map (section_bytes base) ss) in
      ap (λ (h : Header). elim (is_kth index k h) [ true ↦ event_loop bs | false ↦ rest ])
      (section_header sizes base identity last_table_id legal s rules.0)
      ∙ either_bytes base (is_kth index k s.header) s.events (kth_events index k ss) (event_loop bs) rest
      (loop_back sizes base identity last_table_id legal s rules.0) (among_bytes ss rules.1)

-- ---- the k-th among a segment's sections

module _ (index k : ℕ) (s : Section) (ss : List Section) where
  kth_here : T (is_kth index k s.header) → kth_events index k (s ∷ ss) ≡ s.events
  kth_here here = rw (kth_events, true_is (is_kth index k s.header) here)

  kth_elsewhere : T (not (is_kth index k s.header)) → kth_events index k (s ∷ ss) ≡ kth_events index k ss
  kth_elsewhere elsewhere = rw (kth_events, false_is (is_kth index k s.header) elsewhere)

module _ (index k : ℕ) where
  kth_is : (h : Header) → T (is_kth index k h)
      → (h.table_id ≡ table_of index) × (h.section_number ≡ first_section index + k)
  kth_is h t =
      let (table, number) =
      and_parts (eqb h.table_id (table_of index)) (eqb h.section_number (first_section index + k)) t in
      (eqb→eq h.table_id (table_of index) table, eqb→eq h.section_number (first_section index + k) number)

  is_kth_holds : (h : Header) → h.table_id ≡ table_of index → h.section_number ≡ first_section index + k → T (is_kth index k h)
  is_kth_holds h table number =
      and_both (eqb h.table_id (table_of index)) (eqb h.section_number (first_section index + k))
      (eq_test h.table_id (table_of index) table) (eq_test h.section_number (first_section index + k) number)

  -- it is among the segment's eight
  kth_inside : k < 8 → (h : Header) → T (is_kth index k h) → T (is_in_first index 8 h)
  kth_inside few h t = let (table, number) = kth_is h t in first_in index 8 h table (omega arith) (omega arith)

  kth_segment : k < 8 → (ss : List Section) → kth_events index k ss ≡ kth_events index k (segment_sections index ss)
  kth_segment few [] = refl
  kth_segment few (s ∷ ss) =
      let rest = kth_segment few ss in
      ⊎_elim
      (λ inside.
      ap (λ (es : List Event). elim (is_kth index k s.header) [ true ↦ s.events | false ↦ es ]) rest
      ∙ ap (kth_events index k) (sym (first_more index 8 s ss inside)))
      (λ outside.
      kth_elsewhere index k s ss
      (not_T (is_kth index k s.header) (λ t. T_not (is_in_first index 8 s.header) outside
      (kth_inside few s.header t)))
      ∙ rest
      ∙ ap (kth_events index k) (sym (first_same index 8 s ss outside)))
      (test_or (is_in_first index 8 s.header))

-- ---- of Build's sections

no_part : (k : ℕ) → get_or {A = List Event} ([] ∷ []) k [] ≡ []
no_part zero = refl
no_part (suc k) = refl

module _ (sizes : Sizes) (identity : Identity) (es : List Event) (index k : ℕ) where
  -- sections numbered from S on have the k-th after d others
  kth_numbered : (S d : ℕ) (ps : List (List Event)) → S + d ≡ first_section index + k
      → kth_events index k (numbered_from sizes identity es index S ps) ≡ get_or ps d []
  kth_numbered S d [] there = refl
  kth_numbered S zero (p ∷ ps) there =
      let s : Section = record { header = header_of sizes identity es index S; events = p } in
      kth_here index k s (numbered_from sizes identity es index (suc S) ps)
      (is_kth_holds index k s.header refl (omega arith))
  kth_numbered S (suc d) (p ∷ ps) there =
      let s : Section = record { header = header_of sizes identity es index S; events = p } in
      kth_elsewhere index k s (numbered_from sizes identity es index (suc S) ps)
      (not_T (is_kth index k s.header) (λ t. omega (arith, (kth_is index k s.header t).1)))
      ∙ kth_numbered (suc S) d ps (omega arith)

  kth_inside_is : kth_events index k (sections_of_segment sizes identity es index)
      ≡ get_or (packed_segment sizes es index) k []
  unfolding sections_of_segment
  kth_inside_is = kth_numbered (first_section index) k (packed_segment sizes es index) refl

  -- a segment outside the range has no events
  outside_none : T (rising es) → T (not (is_inside es index)) → packed_segment sizes es index ≡ [] ∷ []
  unfolding packed_segment packed
  outside_none rises outside = none (segment_events index es) (λ some. T_not (is_inside es index) outside
      (held_inside index es rises some))
    where
      none : (fs : List Event) → (0 < length fs → ⊥) → packed (room sizes) fs ≡ [] ∷ []
      none [] empty = refl
      none (f ∷ fs) empty = absurd (empty (omega arith))

  kth_packed : T (rising es) → k < 8
      → kth_events index k (sections_of sizes identity es) ≡ get_or (packed_segment sizes es index) k []
  kth_packed rises few =
      let eight = parts_few sizes es in
      kth_segment index k few (sections_of sizes identity es)
      ∙ ⊎_elim
      (λ inside. ap (kth_events index k) (sections_inside sizes identity es index eight inside) ∙ kth_inside_is)
      (λ outside.
      ap (kth_events index k) (sections_outside sizes identity es index eight outside)
      ∙ sym (ap (λ (ps : List (List Event)). get_or ps k []) (outside_none rises outside) ∙ no_part k))
      (test_or (is_inside es index))

-- the event bytes in Build's file
pub kth_built : {sizes : Sizes} (legal : LegalSizes sizes) (g : Given sizes) → Fits g → (index k : ℕ) → k < 8
    → kth_event_bytes (own_file g) index k
    ≡ event_loop_bytes g.base (get_or (packed_segment sizes (events g) index) k [])
unfolding kth_event_bytes
kth_built {sizes} legal g fits index k few =
    let rules = own_rules legal g fits in
    let file = legal_file sizes g.base legal.most g.legal_base g.identity (own_sections g) rules in
    ap (kth_among index k)
    (split_file_back sizes g.base legal.most g.legal_base g.identity (own_sections g) rules)
    ∙ among_bytes sizes g.base g.identity rules.last_table_id file index k (own_sections g) rules.sections
    ∙ ap (event_loop_bytes g.base) (kth_packed sizes g.identity (events g) index k (facts g).rises few)

-- none past the last segment: no event starts there
past_none : (index : ℕ) (es : List Event) → 512 ≤ index → Every EventFacts es → segment_events index es ≡ []
past_none index [] past all = refl
past_none index (e ∷ es) past all =
    events_same index e es (λ here. omega (arith, all.0.start)) ∙ past_none index es past all.1

pub kth_past : {sizes : Sizes} (legal : LegalSizes sizes) (g : Given sizes) → Fits g
    → (index k : ℕ) → 512 ≤ index → k < 8 → kth_event_bytes (own_file g) index k ≡ []
unfolding packed_segment packed
kth_past {sizes} legal g fits index k past few =
    kth_built legal g fits index k few
    ∙ ap (λ (es : List Event). event_loop_bytes g.base (get_or (packed (room sizes) es) k []))
    (past_none index (events g) past (facts g).facts)
    ∙ ap (event_loop_bytes g.base) (no_part k)
    ∙ loop_none g.base
