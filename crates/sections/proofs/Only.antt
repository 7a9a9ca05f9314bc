-- Which events the sections hold in each segment tells the whole file: from the same place on, the next sections are in
-- the same segment and so at the same place, and a header's last numbers follow from the next section. By induction
-- over two files at once. Assumes nothing.
use mathlib.Core.Path.{◌≡◌, sym, ap, ap₂, ◌∙◌}
use mathlib.Core.Bool.{not}
use mathlib.Core.Logic.{◌⊎◌, inl, inr, ⊎_elim}
use Prim.Native.Nat.{ℕ, ◌+◌, ◌-◌, ◌*◌, ◌/◌, ◌%◌, ◌≤◌, ◌<◌}
use native.Mathlib.Omega.{arith}
use mathlib.Core.List.{List, [], ◌∷◌}
use lib.Dec.{T, T_not, not_T}
use lib.ListN.{length}
use Rattle.eit.specs.declared.Sizes.{Sizes}
use Rattle.eit.specs.declared.Identity.{Identity}
use Rattle.eit.proofs.Test.{test_or, le_or_lt}
use Rattle.sections.specs.Every.{Every}
use Rattle.sections.specs.Segment.{table_first}
use Rattle.sections.specs.Section.{Header, version_of, Section, headers_of, events_by_section}
use Rattle.sections.specs.Rules.{Numbered, Next, Succeeding, HeaderRules, SectionRules, Rules}
use Rattle.sections.specs.Count.{is_in_first, segment_sections}
use Rattle.sections.proofs.FileSize.{section_key, next_later}
use Rattle.sections.proofs.Count.{index_of, in_first, first_in, first_more, first_same}
use Rattle.sections.proofs.SegmentOrder.{segment_key, next_key, byte_number, behind_none}

-- in each segment the sections hold the same events
abbrev Agree : List Section → List Section → Type 0
Agree ss ts = (index : ℕ) → events_by_section (segment_sections index ss) ≡ events_by_section (segment_sections index ts)

-- two sections at the same place
abbrev Level : Header → Header → Type 0
Level g h = (g.table_id ≡ h.table_id) × (g.section_number ≡ h.section_number)

-- ---- the segment of a section

-- its index
abbrev header_index : Header → ℕ
header_index h = (h.table_id - table_first) * 32 + h.section_number / 8

module _ (h : Header) (least : table_first ≤ h.table_id) (byte : h.section_number < 256) where
  index_start : segment_key (header_index h) ≡ section_key h - section_key h % 8
  index_start =
      let (table, segment) = index_of (h.table_id - table_first) (h.section_number / 8) (omega arith) in
      omega arith

  index_inside : T (is_in_first (header_index h) 8 h)
  index_inside =
      let (table, segment) = index_of (h.table_id - table_first) (h.section_number / 8) (omega arith) in
      first_in (header_index h) 8 h (omega arith) (omega arith) (omega arith)

-- ---- one section less

-- of two files that agree, each from a section at the same place on
module _ (s t : Section) (ss ts : List Section) (level : Level s.header t.header)
    (agree : Agree (s ∷ ss) (t ∷ ts)) where
  level_inside : (index : ℕ) → T (is_in_first index 8 s.header) → T (is_in_first index 8 t.header)
  level_inside index inside =
      let (table, low, high) = in_first index 8 s.header inside in
      first_in index 8 t.header (omega arith) (omega arith) (omega arith)

  level_outside : (index : ℕ) → T (not (is_in_first index 8 s.header)) → T (not (is_in_first index 8 t.header))
  level_outside index outside =
      not_T (is_in_first index 8 t.header) (λ inside.
      let (table, low, high) = in_first index 8 t.header inside in
      T_not (is_in_first index 8 s.header) outside
      (first_in index 8 s.header (omega arith) (omega arith) (omega arith)))

  -- where both are the first of a segment
  heads_agree : (index : ℕ) → T (is_in_first index 8 s.header)
      → (s.events ∷ events_by_section (segment_sections index ss))
      ≡ (t.events ∷ events_by_section (segment_sections index ts))
  heads_agree index inside =
      sym (ap events_by_section (first_more index 8 s ss inside))
      ∙ agree index
      ∙ ap events_by_section (first_more index 8 t ts (level_inside index inside))

  -- so the rests agree
  rests_agree : Agree ss ts
  rests_agree index =
      ⊎_elim
      (λ inside. let both = heads_agree index inside in cc)
      (λ outside.
      sym (ap events_by_section (first_same index 8 s ss outside))
      ∙ agree index
      ∙ ap events_by_section (first_same index 8 t ts (level_outside index outside)))
      (test_or (is_in_first index 8 s.header))

  -- and the first two hold the same events
  heads_same : table_first ≤ s.header.table_id → s.header.section_number < 256 → s.events ≡ t.events
  heads_same least byte = let both = heads_agree (header_index s.header) (index_inside s.header least byte) in cc

-- ---- from a section to the next

-- the next section tells the last numbers: its own where it is in the segment or in the table, else the section's
-- number
next_cases : (g h : Header) → Numbered g → g.last_section_number < 256 → Next g h
    → (((section_key h / 8 ≡ section_key g / 8) × (g.segment_last_section_number ≡ h.segment_last_section_number))
    ⊎ ((section_key g / 8 < section_key h / 8) × (g.segment_last_section_number ≡ g.section_number)))
    × (((h.table_id ≡ g.table_id) × (g.last_section_number ≡ h.last_section_number))
    ⊎ ((g.table_id < h.table_id) × (g.last_section_number ≡ g.section_number)))
next_cases g h n byte next =
    ⊎_elim
    (λ ends. ⊎_elim
    (λ last.
    let (table, section) = next.tables (omega (arith, n.segment, n.table)) in (
      inr (omega (arith, n.segment, n.table), omega (arith, n.segment)),
      inr (omega arith, omega (arith, n.segment, n.table)),
    ))
    (λ inside.
    let (within, section) = next.table (omega (arith, n.segment)) (omega arith) in
    (inr (omega (arith, within.table), omega (arith, n.segment)), inl (within.table, sym within.last)))
    (le_or_lt g.last_section_number g.section_number))
    (λ inside.
    let (within, section, same) = next.segment inside in
    (inl (omega (arith, within.table, n.eight), sym same), inl (within.table, sym within.last)))
    (le_or_lt g.segment_last_section_number g.section_number)

-- so two sections at the same place have the same last numbers where the next is the same
level_numbers : (g h next : Header) → Level g h → Numbered g → Numbered h → g.last_section_number < 256
    → h.last_section_number < 256
    → Next g next → Next h next
    → (g.segment_last_section_number ≡ h.segment_last_section_number) × (g.last_section_number ≡ h.last_section_number)
level_numbers g h next level m n few small one other =
    let (segment, table) = next_cases g next m few one in
    let (segment', table') = next_cases h next n small other in (
      ⊎_elim (λ (a, b). ⊎_elim (λ (c, d). omega arith) (λ (c, d). absurd (omega arith)) segment')
          (λ (a, b). ⊎_elim (λ (c, d). absurd (omega arith)) (λ (c, d). omega arith) segment') segment,
      ⊎_elim (λ (a, b). ⊎_elim (λ (c, d). omega arith) (λ (c, d). absurd (omega arith)) table')
          (λ (a, b). ⊎_elim (λ (c, d). absurd (omega arith)) (λ (c, d). omega arith) table') table,
    )

-- the next key, or the first of a segment: the segment decides which
next_key_only : (p q r : ℕ) → p < q → p < r → q / 8 ≡ r / 8 → (q ≡ p + 1) ⊎ (q % 8 ≡ 0) → (r ≡ p + 1) ⊎ (r % 8 ≡ 0)
    → q ≡ r
next_key_only p q r later after same one other =
    ⊎_elim
    (λ next. ⊎_elim (λ also. omega arith) (λ first. omega arith) other)
    (λ first. ⊎_elim (λ next. omega arith) (λ also. omega arith) other)
    one

-- and a key gives table and section_number
key_level : (g h : Header) → g.section_number < 256 → h.section_number < 256 → section_key g ≡ section_key h → Level g h
key_level g h few small same = let table : g.table_id ≡ h.table_id = omega arith in (table, omega arith)

-- a section's header and events, field by field
same_section_holds : (s t : Section) → Level s.header t.header
    → s.header.segment_last_section_number ≡ t.header.segment_last_section_number
    → s.header.last_section_number ≡ t.header.last_section_number
    → s.header.last_table_id ≡ t.header.last_table_id
    → s.header.triplet ≡ t.header.triplet
    → s.header.version ≡ t.header.version
    → s.events ≡ t.events
    → s ≡ t
same_section_holds s t (table, section) segment_last last last_table triplet version events = λ i. record {
  header = record {
    table_id = table i;
    section_number = section i;
    last_section_number = last i;
    segment_last_section_number = segment_last i;
    last_table_id = last_table i;
    triplet = triplet i;
    version = version i;
  };
  events = events i;
}

-- ---- two files that keep the rules

module _ (sizes : Sizes) (identity : Identity) where
  -- the segment of a first section has sections
  first_there : (m : ℕ) (t : Section) (ts : List Section) → SectionRules sizes identity m t
      → 0 < length (events_by_section (segment_sections (header_index t.header) (t ∷ ts)))
  first_there m t ts rule =
      let index : ℕ = header_index t.header in
      let inside : T (is_in_first index 8 t.header) =
      index_inside t.header rule.header_rules.least (byte_number sizes identity m index t rule) in
      omega (arith, ap (λ (us : List Section). length (events_by_section us)) (first_more index 8 t ts inside))

  -- where the one has a section next, the other's next is in no later segment
  not_behind : (l m : ℕ) (s t : Section) (ss ts : List Section)
      → Every (SectionRules sizes identity l) (s ∷ ss) → SectionRules sizes identity m t
      → Succeeding s.header (headers_of ss)
      → Agree (s ∷ ss) (t ∷ ts)
      → section_key s.header / 8 ≤ section_key t.header / 8
  not_behind l m s t ss ts rules rule succeeding agree =
      let h : Header = t.header in
      let index : ℕ = header_index h in
      let start : segment_key index ≡ section_key h - section_key h % 8 =
      index_start h rule.header_rules.least (byte_number sizes identity m index t rule) in
      ⊎_elim
      (λ behind.
      let nothing : segment_sections index (s ∷ ss) ≡ [] =
      behind_none sizes identity l index 8 (omega arith) s ss rules succeeding behind in
      absurd (omega (arith, first_there m t ts rule, ap length (sym (ap events_by_section nothing) ∙ agree index))))
      (λ near. omega arith)
      (le_or_lt (segment_key index + 8) (section_key s.header))

  module _ (l m : ℕ) where
    abbrev Ours : Section → Type 0
    Ours s = SectionRules sizes identity l s

    abbrev Theirs : Section → Type 0
    Theirs t = SectionRules sizes identity m t

    -- at the same place they have the same version
    same_version_holds : (s t : Section) → Level s.header t.header
        → HeaderRules identity l s.header → HeaderRules identity m t.header
        → s.header.version ≡ t.header.version
    same_version_holds s t level g h = g.same_version ∙ ap (version_of identity) level.0 ∙ sym h.same_version

    -- the next sections are at the same place too
    next_level : (s t s' t' : Section) (ss ts : List Section) → Level s.header t.header
        → Every Ours (s ∷ s' ∷ ss) → Every Theirs (t ∷ t' ∷ ts)
        → Succeeding s.header (headers_of (s' ∷ ss)) → Succeeding t.header (headers_of (t' ∷ ts))
        → Agree (s' ∷ ss) (t' ∷ ts)
        → Level s'.header t'.header
    next_level s t s' t' ss ts level ours theirs one other agree =
        let p : ℕ = section_key s.header in
        let q : ℕ = section_key s'.header in
        let r : ℕ = section_key t'.header in
        let g = ours.0.header_rules in
        let h = theirs.0.header_rules in
        let key : section_key t.header ≡ p = omega arith in
        let later : p < q = next_later s.header s'.header g.numbered g.byte one.0 in
        let after : p < r = omega (arith, next_later t.header t'.header h.numbered h.byte other.0) in
        let low : q / 8 ≤ r / 8 = not_behind l m s' t' ss ts ours.1 theirs.1.0 one.1 agree in
        let high : r / 8 ≤ q / 8 =
        not_behind m l t' s' ts ss theirs.1 ours.1.0 other.1 (λ index. sym (agree index)) in
        key_level s'.header t'.header
        (byte_number sizes identity l 0 s' ours.1.0) (byte_number sizes identity m 0 t' theirs.1.0)
        (next_key_only p q r later after (omega arith)
        (⊎_elim (λ (inside, next). inl next) inr (next_key s.header s'.header g.numbered one.0))
        (⊎_elim (λ (inside, next). inl (omega arith)) inr (next_key t.header t'.header h.numbered other.0)))

    -- so from there on all sections are the same
    sections_from_holds : (s t : Section) (ss ts : List Section) → Level s.header t.header
        → Every Ours (s ∷ ss) → Every Theirs (t ∷ ts)
        → Succeeding s.header (headers_of ss) → Succeeding t.header (headers_of ts)
        → Agree (s ∷ ss) (t ∷ ts)
        → (s ∷ ss) ≡ (t ∷ ts)
    sections_from_holds s t [] [] level ours theirs one other agree =
        let g = ours.0.header_rules in
        let h = theirs.0.header_rules in
        let numbers : s.header.segment_last_section_number ≡ t.header.segment_last_section_number =
        omega (
          arith,
          one.section,
          other.section,
          g.numbered.segment,
          g.numbered.table,
          h.numbered.segment,
          h.numbered.table,
        ) in
        ap (λ (u : Section). u ∷ [])
        (same_section_holds s t level numbers (omega (arith, one.section, other.section))
        (omega (arith, one.table, other.table))
        (g.same_triplet ∙ sym h.same_triplet)
        (same_version_holds s t level g h)
        (heads_same s t [] [] level agree g.least (byte_number sizes identity l 0 s ours.0)))
    sections_from_holds s t (s' ∷ ss) [] level ours theirs one other agree =
        let rests : Agree (s' ∷ ss) [] = rests_agree s t (s' ∷ ss) [] level agree in
        absurd (omega (arith, first_there l s' ss ours.1.0, ap length (rests (header_index s'.header))))
    sections_from_holds s t [] (t' ∷ ts) level ours theirs one other agree =
        let rests : Agree [] (t' ∷ ts) = rests_agree s t [] (t' ∷ ts) level agree in
        absurd (omega (arith, first_there m t' ts theirs.1.0, ap length (rests (header_index t'.header))))
    sections_from_holds s t (s' ∷ ss) (t' ∷ ts) level ours theirs one other agree =
        let g = ours.0.header_rules in
        let h = theirs.0.header_rules in
        let rests : Agree (s' ∷ ss) (t' ∷ ts) = rests_agree s t (s' ∷ ss) (t' ∷ ts) level agree in
        let same : (s' ∷ ss) ≡ (t' ∷ ts) =
        sections_from_holds s' t' ss ts (next_level s t s' t' ss ts level ours theirs one other rests)
        ours.1 theirs.1 one.1 other.1 rests in
        let next : s' ≡ t' = cc in
        let header : s'.header ≡ t'.header = ap (λ (u : Section). u.header) next in
        let numbers =
        level_numbers s.header t.header s'.header level g.numbered h.numbered g.byte h.byte
        one.0 (rw header other.0) in
        let last_table : s.header.last_table_id ≡ t.header.last_table_id =
        g.same_last_table ∙ sym ours.1.0.header_rules.same_last_table ∙ ap (λ (u : Header). u.last_table_id) header
        ∙ theirs.1.0.header_rules.same_last_table ∙ sym h.same_last_table in
        ap₂ (λ (u : Section) (us : List Section). u ∷ us)
        (same_section_holds s t level numbers.0 numbers.1 last_table (g.same_triplet ∙ sym h.same_triplet)
        (same_version_holds s t level g h)
        (heads_same s t (s' ∷ ss) (t' ∷ ts) level agree g.least (byte_number sizes identity l 0 s ours.0)))
        same

-- sections that keep the rules under the same identity, and whose sections in each segment hold the same events, are
-- the same
pub sections_only : (sizes : Sizes) (identity : Identity) (ss ts : List Section)
    → Rules sizes identity ss → Rules sizes identity ts
    → ((index : ℕ) → events_by_section (segment_sections index ss) ≡ events_by_section (segment_sections index ts))
    → ss ≡ ts
sections_only sizes identity [] ts ours theirs agree = absurd ours.ordered
sections_only sizes identity (s ∷ ss) [] ours theirs agree = absurd theirs.ordered
sections_only sizes identity (s ∷ ss) (t ∷ ts) ours theirs agree =
    let g = ours.ordered.0 in
    let h = theirs.ordered.0 in
    sections_from_holds sizes identity ours.last_table_id theirs.last_table_id s t ss ts
    (g.table ∙ sym h.table, g.section ∙ sym h.section)
    ours.sections theirs.sections ours.ordered.1 theirs.ordered.1 agree
