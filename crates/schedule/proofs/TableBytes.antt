-- A table's bytes in a file of sections that keep the rules, and what is left of them, version and CRC_32 aside: of two
-- tables with the same version the ones are the same exactly if the others are, since each section states its length.
-- Section by section. Assumes nothing.
use mathlib.Core.Path.{◌≡◌, refl, sym, ap, ap₂, ◌∙◌}
use mathlib.Core.Bool.{true, false}
use mathlib.Core.Logic.{◌↔◌, ⊎_elim}
use mathlib.Core.List.{List, [], ◌∷◌, ◌++◌, map, flatten, append_assoc, append-nil}
use Prim.Native.Nat.{ℕ, ◌-◌, ◌≤◌}
use native.Mathlib.Omega.{arith}
use borrow.Author.Tests.{eq-eqb, ne_eqb}
use lib.Dec.{eqb}
use lib.ListN.{take, drop, take-append-drop}
use lib.Seq.{length-take-le}
use Rattle.eit.specs.declared.Sizes.{Sizes}
use Rattle.eit.specs.Limits.{base_day_max}
use Rattle.eit.specs.Fields.{big_endian}
use Rattle.eit.specs.Crc.{crc32}
use Rattle.eit.specs.declared.Identity.{Identity}
use Rattle.eit.proofs.Test.{eq_or_not}
use Rattle.sections.specs.Every.{Every}
use Rattle.sections.specs.Section.{Header, version_of, Section, section_size}
use Rattle.sections.specs.Encode.{covered_bytes, section_bytes, file_bytes}
use Rattle.sections.specs.Decode.{stated_section_size, header_in}
use Rattle.sections.specs.Split.{split_by}
use Rattle.sections.specs.Rules.{SectionRules, Rules}
use Rattle.sections.proofs.Every.{every_map}
use Rattle.sections.proofs.Lengths.{section_length}
use Rattle.sections.proofs.Split.{Stated, split_back}
use Rattle.sections.proofs.SectionBack.{Legal, section_is, section_header, section_stated}
use Rattle.sections.proofs.Exact.{legal_file, split_file_back}
use Rattle.schedule.specs.Rebuild.{of_table, table_sections, unversioned, table_bytes}
use Rattle.schedule.proofs.LeftBytes.{stated_front, covered_size, left_is, left_size_holds, same_section_holds}

-- ---- the sections of a table

abbrev pub in_table : ℕ → List Section → List Section
in_table table [] = []
in_table table (s ∷ ss) =
    elim (eqb s.header.table_id table) [ true ↦ s ∷ in_table table ss | false ↦ in_table table ss ]

module _ (table : ℕ) (s : Section) (ss : List Section) where
  pub in_more : s.header.table_id ≡ table → in_table table (s ∷ ss) ≡ s ∷ in_table table ss
  in_more is = rw (in_table, eq-eqb s.header.table_id table is)

  pub in_other : (s.header.table_id ≡ table → ⊥) → in_table table (s ∷ ss) ≡ in_table table ss
  in_other other = rw (in_table, ne_eqb s.header.table_id table other)

-- what holds of every section holds of a table's, which have its table_id
in_every : (P : Section → Type 0) (table : ℕ) (ss : List Section) → Every P ss
    → Every (λ (s : Section). P s × (s.header.table_id ≡ table)) (in_table table ss)
in_every P table [] all = tt
in_every P table (s ∷ ss) all =
    ⊎_elim
    (λ is. rw (in_more table s ss is) ((all.0, is), in_every P table ss all.1))
    (λ other. rw (in_other table s ss other) (in_every P table ss all.1))
    (eq_or_not s.header.table_id table)

-- where there are none
in_none : (table : ℕ) (ss : List Section) → in_table table ss ≡ []
    → Every (λ (s : Section). s.header.table_id ≡ table → ⊥) ss
in_none table [] none = tt
in_none table (s ∷ ss) none =
    ⊎_elim
    (λ is. let some : s ∷ in_table table ss ≡ [] = sym (in_more table s ss is) ∙ none in
    let never : ◌≡◌ {A = ℕ} 0 1 = cc in absurd (omega arith))
    (λ other. (other, in_none table ss (sym (in_other table s ss other) ∙ none)))
    (eq_or_not s.header.table_id table)

map_none : (base : ℕ) (ss : List Section) → map (section_bytes base) ss ≡ [] → ss ≡ []
map_none base [] none = refl
map_none base (s ∷ ss) none = let never : ◌≡◌ {A = ℕ} 0 1 = cc in absurd (omega arith)

-- ---- in a file

module _ (sizes : Sizes) (base : ℕ) (length_fits : sizes.section_limit ≤ 4_096) (day : base ≤ base_day_max)
    (identity : Identity) (ss : List Section) (rules : Rules sizes identity ss) (table : ℕ) where
  abbrev legal : Legal sizes base identity rules.last_table_id
  legal = legal_file sizes base length_fits day identity ss rules

  of_table_back : (ts : List Section) → Every (SectionRules sizes identity rules.last_table_id) ts
      → of_table table (map (section_bytes base) ts) ≡ map (section_bytes base) (in_table table ts)
  of_table_back [] each = refl
  of_table_back (t ∷ ts) each =
      let shown : (header_in (section_bytes base t)).table_id ≡ t.header.table_id =
      ap (λ (h : Header). h.table_id) (section_header sizes base identity rules.last_table_id legal t each.0) in
      ⊎_elim
      (λ is.
      rw (of_table, eq-eqb (header_in (section_bytes base t)).table_id table (shown ∙ is), in_more table t ts is)
      (ap (λ (xs : List (List ℕ)). section_bytes base t ∷ xs) (of_table_back ts each.1)))
      (λ other.
      rw (
        of_table,
        ne_eqb (header_in (section_bytes base t)).table_id table (λ is. other (sym shown ∙ is)),
        in_other
            table t ts other,
      )
      (of_table_back ts each.1))
      (eq_or_not t.header.table_id table)

  -- the sections of a table in the file
  pub table_sections_holds : table_sections table (file_bytes base ss) ≡ map (section_bytes base) (in_table table ss)
  unfolding table_sections
  table_sections_holds =
      ap (of_table table) (split_file_back sizes base length_fits day identity ss rules)
      ∙ of_table_back ss rules.sections

  pub table_none : table_sections table (file_bytes base ss) ≡ []
      → Every (λ (s : Section). s.header.table_id ≡ table → ⊥) ss
  table_none none = in_none table ss (map_none base (in_table table ss) (sym table_sections_holds ∙ none))

  -- and their bytes, version and CRC_32 aside
  pub table_bytes_holds : table_bytes table (file_bytes base ss)
      ≡ flatten (map unversioned (map (section_bytes base) (in_table table ss)))
  unfolding table_bytes
  table_bytes_holds = ap (λ (xs : List (List ℕ)). flatten (map unversioned xs)) table_sections_holds

  -- each section states its length, also in what is left of it
  abbrev left_size : List ℕ → ℕ
  left_size bs = stated_section_size bs - 5

  sections_stated : (ts : List Section)
      → Every (λ (t : Section). SectionRules sizes identity rules.last_table_id t × (t.header.table_id ≡ table)) ts
      → Every (Stated stated_section_size) (map (section_bytes base) ts)
  sections_stated [] each = tt
  sections_stated (t ∷ ts) each =
      (section_stated sizes base identity rules.last_table_id legal t each.0.0, sections_stated ts each.1)

  left_stated : (t : Section) → SectionRules sizes identity rules.last_table_id t
      → Stated left_size (unversioned (section_bytes base t))
  left_stated t rule =
      let c : List ℕ = covered_bytes base t in
      let left : List ℕ = unversioned (section_bytes base t) in
      let crc : List ℕ = big_endian 4 (crc32 c) in
      let whole : stated_section_size c ≡ section_size t =
      sym (stated_front c crc (omega (arith, covered_size base t)))
      ∙ ap stated_section_size (sym (section_is base t))
      ∙ rw (append-nil (section_bytes base t)) at
      ((section_stated sizes base identity rules.last_table_id legal t rule).stated [])
      ∙ section_length base t in
      let front : stated_section_size (take 5 c) ≡ stated_section_size c =
      sym (stated_front (take 5 c) (drop 5 c) (omega (arith, length-take-le 5 c (omega (arith, covered_size base t)))))
      ∙ ap stated_section_size (take-append-drop 5 c) in
      record {
        some = omega (arith, left_size_holds base t);
        stated = λ rest.
            let parts : left ++ rest ≡ take 5 c ++ (drop 6 c ++ rest) =
            ap (λ (xs : List ℕ). xs ++ rest) (left_is base t) ∙ append_assoc (take 5 c) (drop 6 c) rest in
            let is : stated_section_size (left ++ rest) ≡ section_size t =
            ap stated_section_size parts
            ∙ stated_front (take 5 c) (drop 6 c ++ rest)
            (omega (arith, length-take-le 5 c (omega (arith, covered_size base t))))
            ∙ front ∙ whole in
            omega (arith, left_size_holds base t);
      }

  lefts_stated : (ts : List Section)
      → Every (λ (t : Section). SectionRules sizes identity rules.last_table_id t × (t.header.table_id ≡ table)) ts
      → Every (Stated left_size) (map unversioned (map (section_bytes base) ts))
  lefts_stated [] each = tt
  lefts_stated (t ∷ ts) each = (left_stated t each.0.0, lefts_stated ts each.1)

  table_rules : Every
      (λ (t : Section). SectionRules sizes identity rules.last_table_id t × (t.header.table_id ≡ table))
      (in_table table ss)
  table_rules = in_every (SectionRules sizes identity rules.last_table_id) table ss rules.sections

  -- so joined bytes tell the sections
  whole_split : split_by stated_section_size (flatten (map (section_bytes base) (in_table table ss)))
      ≡ map (section_bytes base) (in_table table ss)
  whole_split =
      split_back stated_section_size (map (section_bytes base) (in_table table ss))
      (sections_stated (in_table table ss) table_rules)

  left_split : split_by (λ (bs : List ℕ). stated_section_size bs - 5)
      (flatten (map unversioned (map (section_bytes base) (in_table table ss))))
      ≡ map unversioned (map (section_bytes base) (in_table table ss))
  left_split =
      split_back left_size (map unversioned (map (section_bytes base) (in_table table ss)))
      (lefts_stated (in_table table ss) table_rules)

  -- and they have the table's version
  versions : (ts : List Section)
      → Every (λ (t : Section). SectionRules sizes identity rules.last_table_id t × (t.header.table_id ≡ table)) ts
      → Every (λ (t : Section). t.header.version ≡ version_of identity table) ts
  versions [] each = tt
  versions (t ∷ ts) each =
      (each.0.0.header_rules.same_version ∙ ap (version_of identity) each.0.1, versions ts each.1)

  table_versions : Every (λ (t : Section). t.header.version ≡ version_of identity table) (in_table table ss)
  table_versions = versions (in_table table ss) table_rules

-- ---- two tables with the same version

-- section by section
same_sections : (a b v : ℕ) (ss ts : List Section)
    → Every (λ (s : Section). s.header.version ≡ v) ss → Every (λ (t : Section). t.header.version ≡ v) ts
    → map unversioned (map (section_bytes a) ss) ≡ map unversioned (map (section_bytes b) ts)
    → map (section_bytes a) ss ≡ map (section_bytes b) ts
same_sections a b v [] [] ours theirs same = refl
same_sections a b v [] (t ∷ ts) ours theirs same = let never : ◌≡◌ {A = ℕ} 0 1 = cc in absurd (omega arith)
same_sections a b v (s ∷ ss) [] ours theirs same = let never : ◌≡◌ {A = ℕ} 0 1 = cc in absurd (omega arith)
same_sections a b v (s ∷ ss) (t ∷ ts) ours theirs same =
    let first : unversioned (section_bytes a s) ≡ unversioned (section_bytes b t) = cc in
    let rest : map unversioned (map (section_bytes a) ss) ≡ map unversioned (map (section_bytes b) ts) = cc in
    ap₂ (λ (x : List ℕ) (xs : List (List ℕ)). x ∷ xs)
    (same_section_holds a b s t (ours.0 ∙ sym theirs.0) first)
    (same_sections a b v ss ts ours.1 theirs.1 rest)

module _ (sizes : Sizes) (length_fits : sizes.section_limit ≤ 4_096)
    (a : ℕ) (day : a ≤ base_day_max) (i : Identity) (ss : List Section) (ours : Rules sizes i ss)
    (b : ℕ) (today : b ≤ base_day_max) (j : Identity) (ts : List Section) (theirs : Rules sizes j ts)
    (table : ℕ) (version : version_of i table ≡ version_of j table)
  where
    abbrev our : List (List ℕ)
    our = map (section_bytes a) (in_table table ss)

    abbrev their : List (List ℕ)
    their = map (section_bytes b) (in_table table ts)

    whole_left : flatten our ≡ flatten their → flatten (map unversioned our) ≡ flatten (map unversioned their)
    whole_left same =
        ap (λ (xs : List (List ℕ)). flatten (map unversioned xs))
        (sym (whole_split sizes a length_fits day i ss ours table)
        ∙ ap (split_by stated_section_size) same
        ∙ whole_split sizes b length_fits today j ts theirs table)

    left_whole : flatten (map unversioned our) ≡ flatten (map unversioned their) → flatten our ≡ flatten their
    left_whole same =
        ap flatten
        (same_sections a b (version_of i table) (in_table table ss) (in_table table ts)
        (table_versions sizes a length_fits day i ss ours table)
        (every_map (λ t is. is ∙ sym version) (in_table table ts)
        (table_versions sizes b length_fits today j ts theirs table))
        (sym (left_split sizes a length_fits day i ss ours table)
        ∙ ap (split_by (λ (bs : List ℕ). stated_section_size bs - 5)) same
        ∙ left_split sizes b length_fits today j ts theirs table))

    -- the tables' bytes are the same exactly if they are, version and CRC_32 aside
    pub same_tables : (flatten (table_sections table (file_bytes a ss)) ≡ flatten (table_sections table (file_bytes b ts)))
        ↔ (table_bytes table (file_bytes a ss) ≡ table_bytes table (file_bytes b ts))
    same_tables =
        let first : table_sections table (file_bytes a ss) ≡ our =
        table_sections_holds sizes a length_fits day i ss ours table in
        let second : table_sections table (file_bytes b ts) ≡ their =
        table_sections_holds sizes b length_fits today j ts theirs table in
        let left : table_bytes table (file_bytes a ss) ≡ flatten (map unversioned our) =
        table_bytes_holds sizes a length_fits day i ss ours table in
        let other : table_bytes table (file_bytes b ts) ≡ flatten (map unversioned their) =
        table_bytes_holds sizes b length_fits today j ts theirs table in (
          λ same. left ∙ whole_left (sym (ap flatten first) ∙ same ∙ ap flatten second) ∙ sym other,
          λ same. ap flatten first ∙ left_whole (sym left ∙ same ∙ other) ∙ sym (ap flatten second),
        )

    -- so the sections are, too
    pub same_table : (table_bytes table (file_bytes a ss) ≡ table_bytes table (file_bytes b ts))
        ↔ (table_sections table (file_bytes a ss) ≡ table_sections table (file_bytes b ts))
    unfolding table_bytes
    same_table =
        let first : table_sections table (file_bytes a ss) ≡ our =
        table_sections_holds sizes a length_fits day i ss ours table in
        let second : table_sections table (file_bytes b ts) ≡ their =
        table_sections_holds sizes b length_fits today j ts theirs table in (
          λ same.
              let equal : flatten our ≡ flatten their =
              sym (ap flatten first) ∙ same_tables.1 same ∙ ap flatten second in
              first
              ∙ sym (whole_split sizes a length_fits day i ss ours table)
              ∙ ap (split_by stated_section_size) equal
              ∙ whole_split sizes b length_fits today j ts theirs table
              ∙ sym second,
          λ same. ap (λ (xs : List (List ℕ)). flatten (map unversioned xs)) same,
        )
