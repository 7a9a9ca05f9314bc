-- Read's tests of numbering say what the rules say: each test of numbers is the fact that it tests, and a section that
-- is itself numbered by the rules has just one of three places behind it. Assumes nothing.
use mathlib.Core.Path.{◌≡◌}
use mathlib.Core.Bool.{Bool, ◌&&◌, ◌||◌}
use mathlib.Core.List.{[]}
use mathlib.Core.Logic.{◌⊎◌, inl, inr, ⊎_elim}
use mathlib.Core.Option.{none, some}
use Prim.Native.Nat.{ℕ, ◌+◌, ◌≤◌, ◌<◌}
use native.Mathlib.Omega.{arith}
use borrow.Author.Tests.{lt-ltb, le-ltb}
use lib.Dec.{T, eqb, leb, eqb→eq, leb→le, le→leb}
use Rattle.eit.proofs.Test.{tests, eq_test, and_both, and_parts, le_or_lt, or_left, or_right, or_cases}
use Rattle.sections.specs.Segment.{table_first, first_of}
use Rattle.sections.specs.Section.{Header}
use Rattle.sections.specs.HeaderTests.{is_numbered, is_at, is_next}
use Rattle.sections.specs.EventTests.{is_filled_or_alone}
use Rattle.sections.specs.Read.{is_complete}
use Rattle.sections.specs.Rules.{Numbered, First, Within, Next, Last, Alone}

-- ---- equations and their tests

eq_tests : (a b c d : ℕ) → a ≡ b → c ≡ d → T (eqb a b && eqb c d)
eq_tests a b c d e f = search (tests, eq_test)

tests_eq : (a b c d : ℕ) → T (eqb a b && eqb c d) → (a ≡ b) × (c ≡ d)
tests_eq a b c d t =
    let (s, u) = and_parts (eqb a b) (eqb c d) t in
    (eqb→eq a b s, eqb→eq c d u)

-- ---- a section's own numbers: the test says what the rule says

pub numbered_is : (h : Header) → Numbered h → T (is_numbered h)
numbered_is h n =
    let G : ℕ = h.segment_last_section_number in
    let L : ℕ = h.last_section_number in
    let s0 : ℕ = first_of h.section_number in
    let whole : T (eqb G L || leb (s0 + 8) L) =
    ⊎_elim
    (λ e. or_left (eqb G L) (leb (s0 + 8) L) (eq_test G L e))
    (λ later. or_right (eqb G L) (leb (s0 + 8) L) (le→leb (s0 + 8) L later))
    n.whole in
    search (tests, le→leb, n.segment, n.table, n.eight, whole)

pub is_numbered_holds : (h : Header) → T (is_numbered h) → Numbered h
is_numbered_holds h t =
    let S : ℕ = h.section_number in
    let G : ℕ = h.segment_last_section_number in
    let L : ℕ = h.last_section_number in
    let s0 : ℕ = first_of S in
    let (segment, others) = and_parts (leb S G) (leb G L && (leb G (s0 + 7) && (eqb G L || leb (s0 + 8) L))) t in
    let (table, rest) = and_parts (leb G L) (leb G (s0 + 7) && (eqb G L || leb (s0 + 8) L)) others in
    let (eight, whole) = and_parts (leb G (s0 + 7)) (eqb G L || leb (s0 + 8) L) rest in
    record {
      first = omega arith;
      segment = leb→le S G segment;
      table = leb→le G L table;
      eight = leb→le G (s0 + 7) eight;
      whole =
          ⊎_elim (λ e. inl (eqb→eq G L e)) (λ later. inr (leb→le (s0 + 8) L later))
          (or_cases (eqb G L) (leb (s0 + 8) L) whole);
    }

-- ---- the first

pub first_is : (h : Header) → First h → T (is_next none h)
first_is h first = eq_tests _ _ _ _ first.table first.section

pub is_first : (h : Header) → T (is_next none h) → First h
is_first h t =
    let (table, section) = tests_eq h.table_id table_first h.section_number 0 t in
    record { table = table; section = section }

-- ---- the next, behind a section that is itself numbered by the rules

module _ (g h : Header) where
  -- section_number, segment_last_section_number and last_section_number of the section before
  abbrev S : ℕ
  S = g.section_number

  abbrev G : ℕ
  G = g.segment_last_section_number

  abbrev L : ℕ
  L = g.last_section_number

  -- a section of the same table
  at_is : (number : ℕ) → Within g h × (h.section_number ≡ number) → T (is_at g.table_id number L h)
  at_is number (within, section) =
      and_both (eqb h.table_id g.table_id) (eqb h.section_number number && eqb h.last_section_number L)
      (eq_test h.table_id g.table_id within.table)
      (eq_tests h.section_number number h.last_section_number L section within.last)

  is_at_holds : (number : ℕ) → T (is_at g.table_id number L h) → Within g h × (h.section_number ≡ number)
  is_at_holds number t =
      let numbers : Bool = eqb h.section_number number && eqb h.last_section_number L in
      let (table, others) = and_parts (eqb h.table_id g.table_id) numbers t in
      let (section, last) = tests_eq h.section_number number h.last_section_number L others in
      (record { table = eqb→eq h.table_id g.table_id table; last = last }, section)

  -- the three cases of the test
  next_in_segment : S < G
      → is_next (some g) h ≡ (is_at g.table_id (S + 1) L h && eqb h.segment_last_section_number G)
  next_in_segment inside = rw (is_next, lt-ltb S G inside)

  next_in_table : G ≤ S → S < L → is_next (some g) h ≡ is_at g.table_id (first_of S + 8) L h
  next_in_table ends inside = rw (is_next, le-ltb S G ends, lt-ltb S L inside)

  next_in_tables : G ≤ S → L ≤ S → is_next (some g) h ≡ (eqb h.table_id (g.table_id + 1) && eqb h.section_number 0)
  next_in_tables ends last = rw (is_next, le-ltb S G ends, le-ltb S L last)

  -- in each of them the table stays or goes up by one
  pub is_next_table : T (is_next (some g) h) → (h.table_id ≡ g.table_id) ⊎ (h.table_id ≡ g.table_id + 1)
  is_next_table t =
      ⊎_elim
      (λ ends. ⊎_elim
      (λ last. inr
      (tests_eq h.table_id (g.table_id + 1) h.section_number 0 (rw (next_in_tables ends last) at t)).0)
      (λ inside. inl (is_at_holds (first_of S + 8) (rw (next_in_table ends inside) at t)).0.table)
      (le_or_lt L S))
      (λ inside.
      let here = (and_parts (is_at g.table_id (S + 1) L h) (eqb h.segment_last_section_number G)
      (rw (next_in_segment inside) at t)).0 in
      inl (is_at_holds (S + 1) here).0.table)
      (le_or_lt G S)

  module _ (n : Numbered g) where
    pub next_is : Next g h → T (is_next (some g) h)
    next_is next = ⊎_elim (λ ends. ⊎_elim (tables ends) (table ends) (le_or_lt L S)) segment (le_or_lt G S)
      where
        segment : S < G → T (is_next (some g) h)
        segment inside =
            let (within, section, same) = next.segment inside in
            rw (next_in_segment inside)
            (and_both (is_at g.table_id (S + 1) L h) (eqb h.segment_last_section_number G)
            (at_is (S + 1) (within, section))
            (eq_test h.segment_last_section_number G same))

        table : G ≤ S → S < L → T (is_next (some g) h)
        table ends inside =
            rw (next_in_table ends inside)
            (at_is (first_of S + 8) (next.table (omega (arith, n.segment)) (omega arith)))

        tables : G ≤ S → L ≤ S → T (is_next (some g) h)
        tables ends last =
            let (table, section) = next.tables (omega (arith, n.segment, n.table)) in
            rw (next_in_tables ends last) (eq_tests h.table_id (g.table_id + 1) h.section_number 0 table section)

    pub is_next_holds : T (is_next (some g) h) → Next g h
    is_next_holds t = record { segment = segment; table = table; tables = tables }
      where
        segment : S < G → Within g h × (h.section_number ≡ S + 1) × (h.segment_last_section_number ≡ G)
        segment inside =
            let at_next : Bool = is_at g.table_id (S + 1) L h in
            let (here, same) =
            and_parts at_next (eqb h.segment_last_section_number G) (rw (next_in_segment inside) at t) in
            let (within, section) = is_at_holds (S + 1) here in
            (within, section, eqb→eq h.segment_last_section_number G same)

        table : S ≡ G → G < L → Within g h × (h.section_number ≡ first_of S + 8)
        table ends inside = is_at_holds (first_of S + 8) (rw (next_in_table (omega arith) (omega arith)) at t)

        tables : S ≡ L → (h.table_id ≡ g.table_id + 1) × (h.section_number ≡ 0)
        tables last =
            tests_eq h.table_id (g.table_id + 1) h.section_number 0
            (rw (next_in_tables (omega (arith, n.table)) (omega arith)) at t)

-- ---- the last

pub last_is : (h : Header) → Last h → T (is_complete (some h))
last_is h last = eq_tests _ _ _ _ last.section last.table

pub is_last : (h : Header) → T (is_complete (some h)) → Last h
is_last h t =
    let (section, table) = tests_eq h.section_number h.last_section_number h.table_id h.last_table_id t in
    record { section = section; table = table }

-- ---- an empty section

pub alone_is : (h : Header) → Alone h → T (is_filled_or_alone h [])
alone_is h alone = eq_tests _ _ _ _ alone.number alone.last

pub is_alone : (h : Header) → T (is_filled_or_alone h []) → Alone h
is_alone h t =
    let s0 : ℕ = first_of h.section_number in
    let (number, last) = tests_eq h.section_number s0 h.segment_last_section_number s0 t in
    record { number = number; last = last }
