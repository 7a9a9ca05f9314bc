-- No segment of a file is skipped: table and segment, read as one number, stay from each section to the next, go up by
-- one in the same table, or go on to the next table's first segment. By induction over the sections. Assumes nothing.
use mathlib.Core.Path.{◌≡◌, ap}
use mathlib.Core.Logic.{◌⊎◌, inl, inr, ⊎_elim}
use Prim.Native.Nat.{ℕ, ◌+◌, ◌*◌, ◌/◌, ◌%◌, ◌≤◌, ◌<◌}
use native.Mathlib.Omega.{arith}
use mathlib.Core.List.{List, [], ◌∷◌}
use lib.Dec.{T}
use lib.ListN.{length}
use Rattle.eit.specs.declared.Sizes.{Sizes}
use Rattle.eit.specs.declared.Identity.{Identity}
use Rattle.eit.proofs.Test.{test_or, le_or_lt}
use Rattle.sections.specs.Every.{Every}
use Rattle.sections.specs.Segment.{table_of, segment_of}
use Rattle.sections.specs.Section.{Header, Section, headers_of}
use Rattle.sections.specs.Rules.{Numbered, Next, Succeeding, Ordered, SectionRules, Rules}
use Rattle.sections.specs.Count.{is_in_first, segment_sections}
use Rattle.sections.proofs.Count.{in_first, first_in, first_more, first_same}

-- ---- segments in the file's order

-- the place of a section's segment among all that a file could have
abbrev segment_at : Header → ℕ
segment_at h = h.table_id * 32 + h.section_number / 8

-- and that of the segment with an index
abbrev index_at : ℕ → ℕ
index_at index = table_of index * 32 + segment_of index

-- the next section stays in the segment, is in the table's next one, or in the next table's first
next_segment : (g h : Header) → Numbered g → Next g h
    → ((h.table_id ≡ g.table_id) × (segment_at h ≤ segment_at g + 1))
    ⊎ ((h.table_id ≡ g.table_id + 1) × (h.section_number ≡ 0))
next_segment g h n next =
    ⊎_elim
    (λ ends. ⊎_elim
    (λ last. inr (next.tables (omega (arith, n.segment, n.table))))
    (λ inside.
    let (within, section) = next.table (omega (arith, n.segment)) (omega arith) in
    inl (within.table, omega (arith, within.table)))
    (le_or_lt g.last_section_number g.section_number))
    (λ inside.
    let (within, section, same) = next.segment inside in
    inl (within.table, omega (arith, within.table)))
    (le_or_lt g.segment_last_section_number g.section_number)

-- a section is in a segment exactly if the two places are the same
module _ (index : ℕ) (h : Header) where
  at_in : h.section_number < 256 → segment_at h ≡ index_at index → T (is_in_first index 8 h)
  at_in byte at =
      let table : h.table_id ≡ table_of index = omega arith in
      first_in index 8 h table (omega arith) (omega arith)

  in_at : T (is_in_first index 8 h) → segment_at h ≡ index_at index
  in_at inside = let (table, low, high) = in_first index 8 h inside in omega arith

-- a segment has sections exactly if the first section is in it or it has sections of the rest
module _ (index : ℕ) (s : Section) (ss : List Section) where
  here_some : T (is_in_first index 8 s.header) → 0 < length (segment_sections index (s ∷ ss))
  here_some inside = omega (arith, ap length (first_more index 8 s ss inside))

  rest_some : 0 < length (segment_sections index ss) → 0 < length (segment_sections index (s ∷ ss))
  rest_some some =
      ⊎_elim here_some (λ outside. omega (arith, ap length (first_same index 8 s ss outside)))
      (test_or (is_in_first index 8 s.header))

  some_where : 0 < length (segment_sections index (s ∷ ss))
      → T (is_in_first index 8 s.header) ⊎ (0 < length (segment_sections index ss))
  some_where some =
      ⊎_elim inl (λ outside. inr (omega (arith, ap length (first_same index 8 s ss outside))))
      (test_or (is_in_first index 8 s.header))

-- ---- sections that keep the rules

module _ (sizes : Sizes) (identity : Identity) (last_table_id : ℕ) where
  abbrev KeepsRules : Section → Type 0
  KeepsRules s = SectionRules sizes identity last_table_id s

  -- a segment that has sections from a section on is in no table before that section's
  table_least : (j : ℕ) (s : Section) (ss : List Section) → Every KeepsRules (s ∷ ss)
      → Succeeding s.header (headers_of ss)
      → 0 < length (segment_sections j (s ∷ ss))
      → s.header.table_id ≤ table_of j
  table_least j s [] rules succeeding some =
      ⊎_elim (λ here. omega (arith, (in_first j 8 s.header here).0)) (λ rest. absurd (omega arith))
      (some_where j s [] some)
  table_least j s (t ∷ ss) rules succeeding some =
      ⊎_elim
      (λ here. omega (arith, (in_first j 8 s.header here).0))
      (λ rest.
      let least : t.header.table_id ≤ table_of j = table_least j t ss rules.1 succeeding.1 rest in
      ⊎_elim (λ (same, at). omega arith) (λ (table, section). omega arith)
      (next_segment s.header t.header rules.0.header_rules.numbered succeeding.0))
      (some_where j s (t ∷ ss) some)

  ordered_begins : (ss : List Section) → Every KeepsRules ss → Ordered (headers_of ss)
      → 0 < length (segment_sections 0 ss)
  ordered_begins [] rules ordered = absurd ordered
  ordered_begins (s ∷ ss) rules ordered =
      let first = ordered.0 in
      here_some 0 s ss
      (first_in 0 8 s.header first.table (omega (arith, first.section)) (omega (arith, first.section)))

  module _ (i j : ℕ) (early : i ≤ j) (near : (i / 32 ≡ j / 32) ⊎ (i % 32 ≡ 0)) where
    -- a section in segment i, or one before it, with segment j in the rest
    here_or_before : (s : Section) (ss : List Section) → KeepsRules s → segment_at s.header ≤ index_at i
        → 0 < length (segment_sections j (s ∷ ss))
        → (0 < length (segment_sections i (s ∷ ss)))
        ⊎ ((segment_at s.header < index_at i) × (0 < length (segment_sections j ss)))
    here_or_before s ss rules least some =
        let h = rules.header_rules in
        let byte : s.header.section_number < 256 = omega (arith, h.numbered.segment, h.numbered.table, h.byte) in
        ⊎_elim
        (λ reached. inl (here_some i s ss (at_in i s.header byte (omega arith))))
        (λ before. ⊎_elim
        (λ here. absurd (omega (arith, in_at j s.header here)))
        (λ rest. inr (before, rest))
        (some_where j s ss some))
        (le_or_lt (index_at i) (segment_at s.header))

    -- the next section does not pass segment i: in a table behind it there is no section of segment j
    next_least : (s t : Section) (ss : List Section) → Every KeepsRules (s ∷ t ∷ ss)
        → Succeeding s.header (headers_of (t ∷ ss))
        → segment_at s.header < index_at i
        → 0 < length (segment_sections j (t ∷ ss))
        → segment_at t.header ≤ index_at i
    next_least s t ss rules succeeding before some =
        let least : t.header.table_id ≤ table_of j = table_least j t ss rules.1 succeeding.1 some in
        ⊎_elim
        (λ (table, at). omega arith)
        (λ (table, section). ⊎_elim (λ same. omega arith) (λ first. omega arith) near)
        (next_segment s.header t.header rules.0.header_rules.numbered succeeding.0)

    -- so segment i has sections from a section on that is not behind it, if segment j has
    from_between : (s : Section) (ss : List Section) → Every KeepsRules (s ∷ ss) → Succeeding s.header (headers_of ss)
        → segment_at s.header ≤ index_at i
        → 0 < length (segment_sections j (s ∷ ss))
        → 0 < length (segment_sections i (s ∷ ss))
    from_between s [] rules succeeding least some =
        ⊎_elim (λ here. here) (λ (before, rest). absurd (omega arith)) (here_or_before s [] rules.0 least some)
    from_between s (t ∷ ss) rules succeeding least some =
        ⊎_elim
        (λ here. here)
        (λ (before, rest).
        rest_some i s (t ∷ ss)
        (from_between t ss rules.1 succeeding.1 (next_least s t ss rules succeeding before rest) rest))
        (here_or_before s (t ∷ ss) rules.0 least some)

    ordered_between : (ss : List Section) → Every KeepsRules ss → Ordered (headers_of ss)
        → 0 < length (segment_sections j ss)
        → 0 < length (segment_sections i ss)
    ordered_between [] rules ordered some = absurd ordered
    ordered_between (s ∷ ss) rules ordered some =
        from_between s ss rules ordered.1 (omega (arith, ordered.0.table, ordered.0.section)) some

-- ---- the laws

module _ (sizes : Sizes) (identity : Identity) (ss : List Section) (rules : Rules sizes identity ss) where
  -- a file has sections in its first segment
  pub segment_begins : 0 < length (segment_sections 0 ss)
  segment_begins = ordered_begins sizes identity rules.last_table_id ss rules.sections rules.ordered

  -- no segment is skipped: one that is not behind a segment with sections has sections, if it is in the same table or
  -- its table's first
  pub segment_between : (i j : ℕ) → 0 < length (segment_sections j ss) → i ≤ j → (i / 32 ≡ j / 32) ⊎ (i % 32 ≡ 0)
      → 0 < length (segment_sections i ss)
  segment_between i j some early near =
      ordered_between sizes identity rules.last_table_id i j early near ss rules.sections rules.ordered some
