-- Counting in a segment from a file's bytes counts the sections with that segment's table and numbers, and these hold
-- the events that start in it: the bytes of sections that keep the rules show these sections, and table and first
-- section tell the index. Assumes nothing.
use mathlib.Core.Path.{◌≡◌, refl, sym, ap, ap₂, subst, ◌∙◌}
use mathlib.Core.Bool.{not, ◌&&◌}
use mathlib.Core.Logic.{◌↔◌, ⊎_elim}
use Prim.Native.Nat.{ℕ, suc, ◌+◌, ◌*◌, ◌≤◌, ◌<◌}
use native.Mathlib.Omega.{arith}
use mathlib.Core.List.{List, [], ◌∷◌, ◌++◌, map}
use borrow.Author.Tests.{eq-eqb, ne_eqb}
use lib.Dec.{T, eqb, leb, ltb, eqb→eq, leb→le, ltb→lt, le→leb, T_not}
use lib.ListN.{length, length-append, length-map}
use Rattle.eit.specs.declared.Sizes.{Sizes}
use Rattle.eit.specs.Limits.{base_day_max}
use Rattle.eit.specs.Events.{Event}
use Rattle.eit.specs.declared.Identity.{Identity}
use Rattle.eit.proofs.Test.{tests, and_parts, true_is, false_is, test_or, eq_test, eq_or_not}
use Rattle.sections.specs.Every.{Every}
use Rattle.sections.specs.Segment.{table_first, segment_index, table_of, segment_of, first_section, first_of}
use Rattle.sections.specs.Section.{Header, Section, section_events}
use Rattle.sections.specs.Encode.{file_bytes}
use Rattle.sections.specs.Decode.{header_in, split_events, section_in, split_file, sections_in}
use Rattle.sections.specs.Rules.{EventRules, Rules}
use Rattle.sections.specs.Count.{is_in_first, first_sections, segment_events, segment_sections, sections_counted}
use Rattle.sections.specs.Count.{events_counted}
use Rattle.sections.proofs.Exact.{sections_in_back}

-- ---- arithmetic of indices

-- table and first section tell the index
pub index_only : (i j : ℕ) → table_of i ≡ table_of j → first_section i ≡ first_section j → i ≡ j
index_only i j table first = omega arith

-- table 0x50 + t and segment g have the index 32 × t + g
pub index_of : (t g : ℕ) → g < 32 → (table_of (t * 32 + g) ≡ table_first + t) × (segment_of (t * 32 + g) ≡ g)
index_of t g few = (omega arith, omega arith)

-- the eight section numbers of a segment have its s0
pub first_of_holds : (index k : ℕ) → k < 8 → first_of (first_section index + k) ≡ first_section index
first_of_holds index k few = omega arith

-- what the test of a segment's first k sections says
module _ (index k : ℕ) (h : Header) where
  pub in_first : T (is_in_first index k h)
      → (h.table_id ≡ table_of index) × (first_section index ≤ h.section_number)
      × (h.section_number < first_section index + k)
  in_first inside =
      let S : ℕ = h.section_number in
      let s0 : ℕ = first_section index in
      let (table, numbers) = and_parts (eqb h.table_id (table_of index)) (leb s0 S && ltb S (s0 + k)) inside in
      let (least, most) = and_parts (leb s0 S) (ltb S (s0 + k)) numbers in
      (eqb→eq h.table_id (table_of index) table, leb→le s0 S least, ltb→lt S (s0 + k) most)

  pub first_in : h.table_id ≡ table_of index → first_section index ≤ h.section_number
      → h.section_number < first_section index + k
      → T (is_in_first index k h)
  first_in table least most = search (tests, eq_test, le→leb)

-- a section is in a segment exactly if its table and the first section of its segment are that segment's
pub in_segment_holds : (index : ℕ) (h : Header)
    → T (is_in_first index 8 h) ↔ ((h.table_id ≡ table_of index) × (first_of h.section_number ≡ first_section index))
in_segment_holds index h = (
  λ inside. let (table, least, most) = in_first index 8 h inside in (table, omega arith),
  λ (table, first). first_in index 8 h table (omega arith) (omega arith),
)

-- ---- counting from bytes is counting sections

-- the sections that the bytes show
module _ (base : ℕ) (file : List ℕ) (index : ℕ) where
  pub counted_is : sections_counted base file index ≡ length (segment_sections index (sections_in base file))
  unfolding sections_counted
  counted_is = refl

  pub held_is : (k : ℕ)
      → events_counted base file index k ≡ length (section_events (first_sections index k (sections_in base file)))
  unfolding events_counted
  held_is k = refl

-- and of the joined bytes of sections that keep the rules, these sections

module _ (sizes : Sizes) (base : ℕ) (length_fits : sizes.section_limit ≤ 4_096) (legal : base ≤ base_day_max)
    (identity : Identity) (ss : List Section) (rules : Rules sizes identity ss) where
  pub sections_counted_holds : (index : ℕ)
      → sections_counted base (file_bytes base ss) index ≡ length (segment_sections index ss)
  sections_counted_holds index =
      counted_is base (file_bytes base ss) index
      ∙ ap (λ (ts : List Section). length (segment_sections index ts))
      (sections_in_back sizes base length_fits legal identity ss rules)

  pub events_counted_holds : (index k : ℕ)
      → events_counted base (file_bytes base ss) index k ≡ length (section_events (first_sections index k ss))
  events_counted_holds index k =
      held_is base (file_bytes base ss) index k
      ∙ ap (λ (ts : List Section). length (section_events (first_sections index k ts)))
      (sections_in_back sizes base length_fits legal identity ss rules)

-- ---- a segment's sections, with one section more

module _ (index k : ℕ) (s : Section) (ss : List Section) where
  pub first_more : T (is_in_first index k s.header) → first_sections index k (s ∷ ss) ≡ s ∷ first_sections index k ss
  first_more inside = rw (first_sections, true_is (is_in_first index k s.header) inside)

  pub first_same : T (not (is_in_first index k s.header)) → first_sections index k (s ∷ ss) ≡ first_sections index k ss
  first_same outside = rw (first_sections, false_is (is_in_first index k s.header) outside)

-- of joined sections
pub first_append : (index k : ℕ) (ss ts : List Section)
    → first_sections index k (ss ++ ts) ≡ first_sections index k ss ++ first_sections index k ts
first_append index k [] ts = refl
first_append index k (s ∷ ss) ts =
    ⊎_elim
    (λ inside. rw (first_sections, true_is (is_in_first index k s.header) inside)
    (ap (λ (us : List Section). s ∷ us) (first_append index k ss ts)))
    (λ outside. rw (first_sections, false_is (is_in_first index k s.header) outside) (first_append index k ss ts))
    (test_or (is_in_first index k s.header))

-- ---- no count depends on the base day: headers and the ends of events are read without it

module _ (base other index k : ℕ) where
  same_sections : (xs : List (List ℕ))
      → length (first_sections index k (map (section_in base) xs))
      ≡ length (first_sections index k (map (section_in other) xs))
  unfolding section_in
  same_sections [] = refl
  same_sections (x ∷ xs) =
      ⊎_elim
      (λ inside. rw (first_sections, true_is (is_in_first index k (header_in x)) inside) (ap suc (same_sections xs)))
      (λ outside. rw (first_sections, false_is (is_in_first index k (header_in x)) outside) (same_sections xs))
      (test_or (is_in_first index k (header_in x)))

  same_events_holds : (xs : List (List ℕ))
      → length (section_events (first_sections index k (map (section_in base) xs)))
      ≡ length (section_events (first_sections index k (map (section_in other) xs)))
  unfolding section_in section_events
  same_events_holds [] = refl
  same_events_holds (x ∷ xs) =
      ⊎_elim
      (λ inside.
      rw (first_sections, true_is (is_in_first index k (header_in x)) inside)
      (simp (length-append, length-map) (ap (λ (n : ℕ). length (split_events x) + n) (same_events_holds xs))))
      (λ outside. rw (first_sections, false_is (is_in_first index k (header_in x)) outside) (same_events_holds xs))
      (test_or (is_in_first index k (header_in x)))

pub sections_any_base : (base other : ℕ) (file : List ℕ) (index : ℕ)
    → sections_counted base file index ≡ sections_counted other file index
unfolding sections_counted
sections_any_base base other file index = same_sections base other index 8 (split_file file)

pub events_any_base : (base other : ℕ) (file : List ℕ) (index k : ℕ)
    → events_counted base file index k ≡ events_counted other file index k
unfolding events_counted
events_any_base base other file index k = same_events_holds base other index k (split_file file)

-- ---- the events that start in a segment

module _ (index : ℕ) (e : Event) (es : List Event) where
  pub events_more : segment_index e.start ≡ index → segment_events index (e ∷ es) ≡ e ∷ segment_events index es
  events_more here = rw (segment_events, eq-eqb (segment_index e.start) index here)

  pub events_same : (segment_index e.start ≡ index → ⊥) → segment_events index (e ∷ es) ≡ segment_events index es
  events_same elsewhere = rw (segment_events, ne_eqb (segment_index e.start) index elsewhere)

  -- both cases at once
  pub events_cases : (P : List Event → Type 0) → (segment_index e.start ≡ index → P (e ∷ segment_events index es))
      → ((segment_index e.start ≡ index → ⊥) → P (segment_events index es))
      → P (segment_events index (e ∷ es))
  events_cases P more same =
      ⊎_elim (λ here. subst P (sym (events_more here)) (more here))
      (λ elsewhere. subst P (sym (events_same elsewhere)) (same elsewhere)) (eq_or_not (segment_index e.start) index)

pub events_append : (index : ℕ) (ds es : List Event)
    → segment_events index (ds ++ es) ≡ segment_events index ds ++ segment_events index es
events_append index [] es = refl
events_append index (d ∷ ds) es =
    let rest : segment_events index (ds ++ es) ≡ segment_events index ds ++ segment_events index es =
    events_append index ds es in
    events_cases index d ds (λ (fs : List Event). segment_events index (d ∷ (ds ++ es)) ≡ fs ++ segment_events index es)
    (λ here. events_more index d (ds ++ es) here ∙ ap (λ (fs : List Event). d ∷ fs) rest)
    (λ elsewhere. events_same index d (ds ++ es) elsewhere ∙ rest)

module _ (index : ℕ) (h : Header) where
  -- all events of a section in the segment start in it
  all_start : (es : List Event) → Every (EventRules h) es → T (is_in_first index 8 h) → segment_events index es ≡ es
  all_start [] rules inside = refl
  all_start (e ∷ es) rules inside =
      let (table, first) = (in_segment_holds index h).0 inside in
      let here : segment_index e.start ≡ index =
      index_only (segment_index e.start) index (rules.0.table ∙ table) (rules.0.segment ∙ first) in
      events_more index e es here ∙ ap (λ (fs : List Event). e ∷ fs) (all_start es rules.1 inside)

  -- and none of another section
  none_start : (es : List Event) → Every (EventRules h) es → T (not (is_in_first index 8 h)) → segment_events index es ≡ []
  none_start [] rules outside = refl
  none_start (e ∷ es) rules outside =
      let elsewhere : segment_index e.start ≡ index → ⊥ =
      λ here. T_not (is_in_first index 8 h) outside
      ((in_segment_holds index h).1
      (sym rules.0.table ∙ ap table_of here, sym rules.0.segment ∙ ap first_section here)) in
      events_same index e es elsewhere ∙ none_start es rules.1 outside

-- the sections in a segment hold the events that start in it
pub segment_holds : (index : ℕ) (ss : List Section)
    → Every (λ (s : Section). Every (EventRules s.header) s.events) ss
    → section_events (segment_sections index ss) ≡ segment_events index (section_events ss)
unfolding section_events
segment_holds index [] rules = refl
segment_holds index (s ∷ ss) rules =
    let held : section_events (segment_sections index ss) ≡ segment_events index (section_events ss) =
    segment_holds index ss rules.1 in
    let parts = events_append index s.events (section_events ss) in
    ⊎_elim
    (λ inside.
    ap section_events (first_more index 8 s ss inside)
    ∙ ap₂ (λ (ds es : List Event). ds ++ es) (sym (all_start index s.header s.events rules.0 inside)) held
    ∙ sym parts)
    (λ outside.
    ap section_events (first_same index 8 s ss outside)
    ∙ held
    ∙ ap (λ (ds : List Event). ds ++ segment_events index (section_events ss))
    (sym (none_start index s.header s.events rules.0 outside))
    ∙ sym parts)
    (test_or (is_in_first index 8 s.header))
