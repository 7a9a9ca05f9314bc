-- The sections in a segment stand in the order of their numbers, from s0 on without a gap: table and section_number,
-- read as one number, are start + 0 to start + 7 in a segment, and from each section to the next this number goes up by
-- one or on to the first of a later segment. By induction over the sections. Assumes nothing.
use mathlib.Core.Path.{◌≡◌, refl, sym, ap, ap₂, subst, ◌∙◌}
use mathlib.Core.Logic.{◌⊎◌, inl, inr, ⊎_elim}
use Prim.Native.Nat.{ℕ, suc, ◌+◌, ◌-◌, ◌*◌, ◌%◌, ◌≤◌, ◌<◌}
use native.Mathlib.Numerals.{add-one}
use native.Mathlib.Omega.{arith}
use mathlib.Core.List.{List, [], ◌∷◌}
use lib.Dec.{not_T}
use lib.ListN.{length, take, length-take}
use lib.Seq.{take-nil}
use Rattle.eit.specs.declared.Sizes.{Sizes}
use Rattle.eit.specs.Events.{Event}
use Rattle.eit.specs.declared.Identity.{Identity}
use Rattle.eit.proofs.Test.{test_or, le_or_lt}
use Rattle.sections.specs.Every.{Every}
use Rattle.sections.specs.Segment.{table_of, first_section}
use Rattle.sections.specs.Section.{Header, Section, headers_of}
use Rattle.sections.specs.Rules.{Numbered, Next, Succeeding, Ordered, SectionRules, Rules}
use Rattle.sections.specs.Count.{is_in_first, first_sections, segment_sections}
use Rattle.sections.proofs.FileSize.{section_key, next_later}
use Rattle.sections.proofs.Count.{in_first, first_in, first_more, first_same}

-- ---- places of a segment's sections

-- the key of a segment's first section
abbrev pub segment_key : ℕ → ℕ
segment_key index = table_of index * 256 + first_section index

-- a key among those of a segment's first k gives table and section_number
key_in : (index k table S : ℕ) → k ≤ 8 → S < 256 → segment_key index ≤ table * 256 + S
    → table * 256 + S < segment_key index + k
    → (table ≡ table_of index) × (first_section index ≤ S) × (S < first_section index + k)
key_in index k table S few byte least most =
    let same : table ≡ table_of index = omega arith in
    (same, omega arith, omega arith)

module _ (index k : ℕ) (few : k ≤ 8) (s : Section) (ss : List Section) (byte : s.header.section_number < 256) where
  first_inside : segment_key index ≤ section_key s.header → section_key s.header < segment_key index + k
      → first_sections index k (s ∷ ss) ≡ s ∷ first_sections index k ss
  first_inside least most =
      let (table, low, high) = key_in index k s.header.table_id s.header.section_number few byte least most in
      first_more index k s ss (first_in index k s.header table low high)

  first_outside : (segment_key index ≤ section_key s.header → section_key s.header < segment_key index + k → ⊥)
      → first_sections index k (s ∷ ss) ≡ first_sections index k ss
  first_outside outside =
      first_same index k s ss
      (not_T (is_in_first index k s.header)
      (λ inside. let (table, low, high) = in_first index k s.header inside in outside (omega arith) (omega arith)))

-- the next section has the next key, or is the first of a later segment
pub next_key : (g h : Header) → Numbered g → Next g h
    → ((g.section_number < g.segment_last_section_number) × (section_key h ≡ section_key g + 1)) ⊎ (section_key h % 8 ≡ 0)
next_key g h n next =
    ⊎_elim
    (λ ends. ⊎_elim
    (λ last. let (table, section) = next.tables (omega (arith, n.segment, n.table)) in inr (omega arith))
    (λ inside. let (within, section) = next.table (omega (arith, n.segment)) (omega arith) in inr (omega arith))
    (le_or_lt g.last_section_number g.section_number))
    (λ inside. let (within, section, same) = next.segment inside in inl (inside, omega (arith, within.table)))
    (le_or_lt g.segment_last_section_number g.section_number)

-- a first section of a segment that is past one segment's start is past that segment
first_later : (index key : ℕ) → key % 8 ≡ 0 → segment_key index < key → segment_key index + 8 ≤ key
first_later index key first later = omega arith

-- ---- how many of k keys from a start on are not before a key

abbrev left : ℕ → ℕ → ℕ → ℕ
left start k key = k - (key - start)

module _ (start k key : ℕ) where
  left_before : key < start → left start k (suc key) ≡ left start k key
  left_before before = omega arith

  left_inside : start ≤ key → key < start + k → suc (left start k (suc key)) ≡ left start k key
  left_inside least most = omega arith

  left_none : start + k ≤ key → left start k key ≡ 0
  left_none behind = omega arith

  left_early : (next : ℕ) → key < next → next ≤ start → left start k next ≡ left start k (suc key)
  left_early next later early = omega arith

-- the first k from a section on, where they are known behind it
one_taken : (index k : ℕ) → k ≤ 8 → (s : Section) (ss : List Section) → s.header.section_number < 256
    → first_sections index k ss
    ≡ take (left (segment_key index) k (suc (section_key s.header))) (segment_sections index ss)
    → first_sections index k (s ∷ ss) ≡ take (left (segment_key index) k (section_key s.header))
    (segment_sections index (s ∷ ss))
one_taken index k few s ss byte rest =
    ⊎_elim (λ least. ⊎_elim behind (inside least) (le_or_lt (start + k) key)) before (le_or_lt start key)
  where
    start : ℕ
    start = segment_key index

    key : ℕ
    key = section_key s.header

    goal : Type 0
    goal = first_sections index k (s ∷ ss) ≡ take (left start k key) (segment_sections index (s ∷ ss))

    before : key < start → goal
    before early =
        first_outside index k few s ss byte (λ least most. omega arith)
        ∙ rest
        ∙ ap₂ (λ (n : ℕ) (ts : List Section). take n ts) (left_before start k key early)
        (sym (first_outside index 8 (omega arith) s ss byte (λ least most. omega arith)))

    inside : start ≤ key → key < start + k → goal
    inside least most =
        first_inside index k few s ss byte least most
        ∙ ap (λ (ts : List Section). s ∷ ts) rest
        ∙ ap₂ (λ (n : ℕ) (ts : List Section). take n ts) (left_inside start k key least most)
        (sym (first_inside index 8 (omega arith) s ss byte least (omega arith)))

    behind : start + k ≤ key → goal
    behind late =
        first_outside index k few s ss byte (λ least most. omega arith)
        ∙ rest
        ∙ ap (λ (n : ℕ). take n (segment_sections index ss)) (left_none start k (suc key) (omega arith))
        ∙ ap (λ (n : ℕ). take n (segment_sections index (s ∷ ss))) (sym (left_none start k key late))

-- ---- sections with and without events

abbrev Filled : Section → Type 0
Filled s = 0 < length s.events

none_or_some : (es : List Event) → (es ≡ []) ⊎ (0 < length es)
none_or_some [] = inl refl
none_or_some (e ∷ es) = inr (omega arith)

module _ (index : ℕ) (s : Section) (ss : List Section) where
  more_filled : Filled s → Every Filled (segment_sections index ss) → Every Filled (segment_sections index (s ∷ ss))
  more_filled some rest =
      ⊎_elim
      (λ inside. subst (Every Filled) (sym (first_more index 8 s ss inside)) (some, rest))
      (λ outside. subst (Every Filled) (sym (first_same index 8 s ss outside)) rest)
      (test_or (is_in_first index 8 s.header))

  one_more : segment_sections index ss ≡ [] → length (segment_sections index (s ∷ ss)) ≤ 1
  one_more none =
      ⊎_elim
      (λ inside. omega (arith, ap length (first_more index 8 s ss inside), ap length none))
      (λ outside. omega (arith, ap length (first_same index 8 s ss outside), ap length none))
      (test_or (is_in_first index 8 s.header))

-- ---- sections that keep the rules

module _ (sizes : Sizes) (identity : Identity) (last_table_id index : ℕ) where
  abbrev KeepsRules : Section → Type 0
  KeepsRules s = SectionRules sizes identity last_table_id s

  pub byte_number : (s : Section) → KeepsRules s → s.header.section_number < 256
  byte_number s rules =
      let h = rules.header_rules in
      omega (arith, h.numbered.segment, h.numbered.table, h.byte)

  later : (s t : Section) → KeepsRules s → Next s.header t.header
      → section_key s.header < section_key t.header
  later s t rules next =
      next_later s.header t.header rules.header_rules.numbered rules.header_rules.byte next

  -- none of the first k from a key behind them on
  pub behind_none : (k : ℕ) → k ≤ 8 → (s : Section) (ss : List Section) → Every KeepsRules (s ∷ ss)
      → Succeeding s.header (headers_of ss)
      → segment_key index + k ≤ section_key s.header
      → first_sections index k (s ∷ ss) ≡ []
  behind_none k few s [] rules succeeding behind =
      first_outside index k few s [] (byte_number s rules.0) (λ least most. omega arith)
  behind_none k few s (t ∷ ss) rules succeeding behind =
      let next : section_key s.header < section_key t.header = later s t rules.0 succeeding.0 in
      first_outside index k few s (t ∷ ss) (byte_number s rules.0) (λ least most. omega arith)
      ∙ behind_none k few t ss rules.1 succeeding.1 (omega arith)

  -- ---- the first k are the first k in the file's order

  -- the first k behind a section
  rest_taken : (k : ℕ) → k ≤ 8 → (s : Section) (ss : List Section) → Every KeepsRules (s ∷ ss)
      → Succeeding s.header (headers_of ss)
      → first_sections index k ss
      ≡ take (left (segment_key index) k (suc (section_key s.header))) (segment_sections index ss)
  rest_taken k few s [] rules succeeding = sym (take-nil (left (segment_key index) k (suc (section_key s.header))))
  rest_taken k few s (t ∷ ss) rules succeeding =
      let start : ℕ = segment_key index in
      let p : ℕ = section_key s.header in
      let q : ℕ = section_key t.header in
      let next : p < q = later s t rules.0 succeeding.0 in
      let taken : first_sections index k (t ∷ ss) ≡ take (left start k q) (segment_sections index (t ∷ ss)) =
      one_taken index k few t ss (byte_number t rules.1.0) (rest_taken k few t ss rules.1 succeeding.1) in
      ⊎_elim
      (λ (inside, one). taken
      ∙ ap (λ (n : ℕ). take (left start k n) (segment_sections index (t ∷ ss))) (one ∙ add-one p))
      (λ first. ⊎_elim
      (λ early. taken ∙ ap (λ (n : ℕ). take n (segment_sections index (t ∷ ss))) (left_early start k p q next early))
      (λ past.
      let behind : start + 8 ≤ q = first_later index q first past in
      behind_none k few t ss rules.1 succeeding.1 (omega arith)
      ∙ sym (take-nil (left start k (suc p)))
      ∙ ap (take (left start k (suc p))) (sym (behind_none 8 (omega arith) t ss rules.1 succeeding.1 behind)))
      (le_or_lt q start))
      (next_key s.header t.header rules.0.header_rules.numbered succeeding.0)

  ordered_taken : (k : ℕ) → k ≤ 8 → (ss : List Section) → Every KeepsRules ss → Ordered (headers_of ss)
      → first_sections index k ss ≡ take k (segment_sections index ss)
  ordered_taken k few [] rules ordered = absurd ordered
  ordered_taken k few (s ∷ ss) rules ordered =
      let all : left (segment_key index) k (section_key s.header) ≡ k =
      omega (arith, ordered.0.table, ordered.0.section) in
      one_taken index k few s ss (byte_number s rules.0) (rest_taken k few s ss rules ordered.1)
      ∙ ap (λ (n : ℕ). take n (segment_sections index (s ∷ ss))) all

  -- ---- they hold events each, or there is one alone

  -- a section without events is its segment's first
  first_alone : (s : Section) → KeepsRules s → s.events ≡ [] → section_key s.header % 8 ≡ 0
  first_alone s rules none = let alone = rules.alone none in omega (arith, alone.number)

  -- so one past a segment's first, and in that segment, has events
  one_filled : (s : Section) (ss : List Section) → KeepsRules s → segment_key index < section_key s.header
      → Every Filled (segment_sections index ss)
      → Every Filled (segment_sections index (s ∷ ss))
  one_filled s ss rules past rest =
      ⊎_elim
      (λ none.
      let behind : segment_key index + 8 ≤ section_key s.header =
      first_later index (section_key s.header) (first_alone s rules none) past in
      let same : segment_sections index (s ∷ ss) ≡ segment_sections index ss =
      first_outside index 8 (omega arith) s ss (byte_number s rules) (λ least most. omega arith) in
      subst (Every Filled) (sym same) rest)
      (λ some. more_filled index s ss some rest)
      (none_or_some s.events)

  -- all behind a segment's first key have events
  rest_filled : (s : Section) (ss : List Section) → Every KeepsRules (s ∷ ss) → Succeeding s.header (headers_of ss)
      → segment_key index ≤ section_key s.header
      → Every Filled (segment_sections index ss)
  rest_filled s [] rules succeeding past = tt
  rest_filled s (t ∷ ss) rules succeeding past =
      let next : section_key s.header < section_key t.header = later s t rules.0 succeeding.0 in
      one_filled t ss rules.1.0 (omega arith) (rest_filled t ss rules.1 succeeding.1 (omega arith))

  -- behind a section without events the next segment begins
  next_first : (s t : Section) → KeepsRules s → Next s.header t.header → s.events ≡ []
      → section_key t.header % 8 ≡ 0
  next_first s t rules next none =
      let alone = rules.alone none in
      ⊎_elim (λ (inside, one). absurd (omega (arith, alone.number, alone.last))) (λ first. first)
      (next_key s.header t.header rules.header_rules.numbered next)

  -- a segment's first section has events, or its next is outside
  all_filled : (s : Section) (ss : List Section) → Every KeepsRules (s ∷ ss) → Succeeding s.header (headers_of ss)
      → (length (segment_sections index (s ∷ ss)) ≤ 1) ⊎ Every Filled (segment_sections index (s ∷ ss))
  all_filled s [] rules succeeding = inl (one_more index s [] refl)
  all_filled s (t ∷ ss) rules succeeding =
      let next : section_key s.header < section_key t.header = later s t rules.0 succeeding.0 in
      ⊎_elim
      (λ past. ⊎_elim
      (λ none.
      let first : section_key t.header % 8 ≡ 0 = next_first s t rules.0 succeeding.0 none in
      let behind : segment_key index + 8 ≤ section_key t.header =
      first_later index (section_key t.header) first (omega arith) in
      inl (one_more index s (t ∷ ss) (behind_none 8 (omega arith) t ss rules.1 succeeding.1 behind)))
      (λ some. inr (more_filled index s (t ∷ ss) some (rest_filled s (t ∷ ss) rules succeeding past)))
      (none_or_some s.events))
      (λ early.
      let same : segment_sections index (s ∷ t ∷ ss) ≡ segment_sections index (t ∷ ss) =
      first_outside index 8 (omega arith) s (t ∷ ss) (byte_number s rules.0) (λ least most. omega arith) in
      subst (λ (ts : List Section). (length ts ≤ 1) ⊎ Every Filled ts) (sym same)
      (all_filled t ss rules.1 succeeding.1))
      (le_or_lt (segment_key index) (section_key s.header))

  ordered_filled : (ss : List Section) → Every KeepsRules ss → Ordered (headers_of ss)
      → (length (segment_sections index ss) ≤ 1) ⊎ Every Filled (segment_sections index ss)
  ordered_filled [] rules ordered = absurd ordered
  ordered_filled (s ∷ ss) rules ordered = all_filled s ss rules ordered.1

-- ---- the laws

module _ (sizes : Sizes) (identity : Identity) (ss : List Section) (rules : Rules sizes identity ss) (index : ℕ) where
  -- a segment's first k sections are the first k of its sections in the file's order
  pub first_take : (k : ℕ) → k ≤ 8 → first_sections index k ss ≡ take k (segment_sections index ss)
  first_take k few = ordered_taken sizes identity rules.last_table_id index k few ss rules.sections rules.ordered

  -- and a segment has at most eight
  pub segment_eight : length (segment_sections index ss) ≤ 8
  segment_eight = omega (arith, ap length (first_take 8 (omega arith)), length-take 8 (segment_sections index ss))

  -- the sections in a segment hold events each, or there is one alone
  pub segment_filled : (length (segment_sections index ss) ≤ 1)
      ⊎ Every (λ (s : Section). 0 < length s.events) (segment_sections index ss)
  segment_filled = ordered_filled sizes identity rules.last_table_id index ss rules.sections rules.ordered
