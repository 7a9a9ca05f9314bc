-- The tables of a file that keeps the rules come in their order, and their next versions by their bytes are the
-- definition's: a table's bytes are the same exactly if they are, version and CRC_32 aside (`same_tables`). Assumes
-- nothing.
use mathlib.Core.Path.{◌≡◌, refl, sym, ap, subst, ◌∙◌}
use mathlib.Core.Logic.{⊎_elim}
use mathlib.Core.List.{List, [], ◌∷◌, map, flatten}
use Prim.Native.Nat.{ℕ, ◌≤◌}
use native.Mathlib.Omega.{arith}
use lib.Dec.{T_not}
use lib.ListN.{length, length-append}
use Rattle.eit.specs.declared.Sizes.{Sizes}
use Rattle.eit.specs.Limits.{base_day_max}
use Rattle.eit.specs.Identity.{tables}
use Rattle.eit.specs.SameList.{same_list}
use Rattle.eit.specs.Fields.{field}
use Rattle.eit.specs.declared.Identity.{Identity}
use Rattle.eit.proofs.Test.{true_is, false_is, test_or}
use Rattle.eit.proofs.SameList.{same_list_holds, same_test}
use Rattle.sections.specs.Every.{Every}
use Rattle.sections.specs.Segment.{table_first}
use Rattle.sections.specs.Section.{Header, version_of, Section, headers_of}
use Rattle.sections.specs.Encode.{section_bytes, file_bytes}
use Rattle.sections.specs.Decode.{split_file}
use Rattle.sections.specs.Rules.{Succeeding, Ordered, SectionRules, Rules}
use Rattle.sections.specs.Exact.{ZeroWhereAbsent}
use Rattle.sections.proofs.Each.{each_within}
use Rattle.sections.proofs.Version.{version_of_holds}
use Rattle.sections.proofs.Lengths.{section_length}
use Rattle.sections.proofs.SectionBack.{section_header}
use Rattle.sections.proofs.Exact.{legal_file, split_file_back}
use Rattle.sections.proofs.Tables.{next_table_holds}
use Rattle.schedule.specs.Rebuild.{table_sections, next_version, next_identity}
use Rattle.schedule.proofs.TableBytes.{in_table, table_sections_holds, table_none, same_tables}
use Rattle.schedule.proofs.Rebuild.{next_new, next_kept, next_raised}
use Rattle.rebuild.specs.Tables.{RisingFrom, next_by, next_versions_by}
use Rattle.rebuild.proofs.NextLaws.{next_same, next_other}

-- ---- tables in their order

module _ (sizes : Sizes) (base : ℕ) (length_fits : sizes.section_limit ≤ 4_096) (day : base ≤ base_day_max)
    (identity : Identity) (ss : List Section) (rules : Rules sizes identity ss) where
  abbrev Ruled : Section → Type 0
  Ruled = SectionRules sizes identity rules.last_table_id

  -- the first byte of a section is its table_id
  table_shown : (s : Section) → Ruled s → field 0 1 (section_bytes base s) ≡ s.header.table_id
  table_shown s rule =
      ap (λ (h : Header). h.table_id)
      (section_header sizes base identity rules.last_table_id
      (legal_file sizes base length_fits day identity ss rules) s rule)

  behind_rise : (least : ℕ) (s : Section) (ts : List Section) → Every Ruled (s ∷ ts)
      → Succeeding s.header (headers_of ts)
      → least ≤ s.header.table_id
      → RisingFrom least (map (section_bytes base) (s ∷ ts))
  behind_rise least s [] each last early = (omega (arith, table_shown s each.0), tt)
  behind_rise least s (t ∷ ts) each succeeding early =
      let shown : field 0 1 (section_bytes base s) ≡ s.header.table_id = table_shown s each.0 in
      let next : field 0 1 (section_bytes base s) ≤ t.header.table_id =
      ⊎_elim (λ same. omega arith) (λ up. omega arith)
      (next_table_holds s.header t.header each.0.header_rules.numbered succeeding.0) in
      (omega arith, behind_rise (field 0 1 (section_bytes base s)) t ts each.1 succeeding.1 next)

  sections_rise : (ts : List Section) → ts ≡ ss → RisingFrom table_first (map (section_bytes base) ts)
  sections_rise [] is = tt
  sections_rise (t ∷ ts) is =
      let each : Every Ruled (t ∷ ts) = subst (Every Ruled) (sym is) rules.sections in
      let ordered = subst (λ (us : List Section). Ordered (headers_of us)) (sym is) rules.ordered in
      behind_rise table_first t ts each ordered.1 each.0.header_rules.least

  pub tables_rise : RisingFrom table_first (split_file (file_bytes base ss))
  tables_rise =
      subst (RisingFrom table_first) (sym (split_file_back sizes base length_fits day identity ss rules))
      (sections_rise ss refl)

-- ---- a table's sections

-- joined, they have bytes if there are any
flat_nothing : flatten {A = ℕ} [] ≡ []
unfolding flatten
flat_nothing = refl

joined_none : (base : ℕ) (ss : List Section) → length (flatten (map (section_bytes base) ss)) ≡ 0 → ss ≡ []
unfolding flatten
joined_none base [] none = refl
joined_none base (s ∷ ss) none =
    absurd
    (omega (
      arith,
      length-append (section_bytes base s) (flatten (map (section_bytes base) ss)),
      section_length base s,
    ))

-- ---- the next versions

module _ (sizes : Sizes) (length_fits : sizes.section_limit ≤ 4_096) (identity : Identity)
    (a : ℕ) (day : a ≤ base_day_max) (ps : List Section) (ours : Rules sizes identity ps)
    (absent : ZeroWhereAbsent identity ps)
    (b : ℕ) (today : b ≤ base_day_max) (ss : List Section) (theirs : Rules sizes identity ss)
  where
    abbrev previous : List ℕ
    previous = file_bytes a ps

    abbrev file : List ℕ
    file = file_bytes b ss

    module _ (table : ℕ) (least : table_first ≤ table) where
      abbrev old : List ℕ
      old = flatten (table_sections table previous)

      abbrev new : List ℕ
      new = flatten (table_sections table file)

      sections_are : table_sections table previous ≡ map (section_bytes a) (in_table table ps)
      sections_are = table_sections_holds sizes a length_fits day identity ps ours table

      -- a table that was not there had version 0
      was_zero : table_sections table previous ≡ [] → version_of identity table ≡ 0
      was_zero none = absent table least (table_none sizes a length_fits day identity ps ours table none)

      -- one that was there had bytes
      had_bytes : (table_sections table previous ≡ [] → ⊥) → length old ≡ 0 → ⊥
      had_bytes there none =
          there (sections_are
          ∙ ap (map (section_bytes a))
          (joined_none a (in_table table ps)
          (ap (λ (xs : List (List ℕ)). length (flatten xs)) (sym sections_are) ∙ none)))

      next_there : (table_sections table previous ≡ [] → ⊥)
          → next_by (version_of identity table) old new ≡ next_version identity previous file table
      next_there there =
          let (forth, back) =
          same_tables sizes length_fits a day identity ps ours b today identity ss theirs table refl in
          ⊎_elim
          (λ same.
          sym (next_same (version_of identity table) new old (true_is (same_list old new) same))
          ∙ sym (next_kept identity previous file table there (forth (same_list_holds old new same))))
          (λ differ.
          sym (next_other (version_of identity table) new old (had_bytes there) (false_is (same_list old new) differ))
          ∙ sym (next_raised identity previous file table there
          (λ equal. T_not (same_list old new) differ (same_test old new (back equal)))))
          (test_or (same_list old new))

      next_table_version : next_by (version_of identity table) old new ≡ next_version identity previous file table
      next_table_version = by (table_sections table previous) refl
        where
          by : (xs : List (List ℕ)) → table_sections table previous ≡ xs
              → next_by (version_of identity table) old new ≡ next_version identity previous file table
          by [] none =
              ap (λ (bs : List ℕ). next_by (version_of identity table) bs new) (ap flatten none ∙ flat_nothing)
              ∙ was_zero none
              ∙ sym (next_new identity previous file table none)
          by (x ∷ xs) is =
              next_there (λ none. let never : ◌≡◌ {A = ℕ} 0 1 = cc in omega arith)

    -- of the versions of the previous file they are those of the definition
    pub next_versions : next_versions_by previous file identity.versions
        ≡ (next_identity identity previous file).versions
    unfolding next_versions_by next_identity
    next_versions =
        each_within _ (next_version identity previous file) table_first tables
        (λ table low high.
        ap (λ (version : ℕ). next_by version (flatten (table_sections table previous))
        (flatten (table_sections table file)))
        (sym (version_of_holds identity table))
        ∙ next_table_version table low)
