-- Build's file has, in each segment inside the range, just the sections of that segment, and none in one outside:
-- sections of another segment have another table or other numbers. By the laws of numbers in a row. Assumes nothing.
use mathlib.Core.Path.{◌≡◌, refl, ap, subst, ◌∙◌}
use mathlib.Core.Bool.{not}
use mathlib.Core.List.{List, [], ◌∷◌, flatten}
use Prim.Native.Nat.{ℕ, suc, ◌+◌, ◌-◌, ◌*◌, ◌/◌, ◌≤◌}
use native.Mathlib.Omega.{arith}
use lib.Dec.{T, not_T, T_not}
use lib.ListN.{length}
use Rattle.eit.specs.declared.Sizes.{Sizes}
use Rattle.eit.specs.Events.{Event}
use Rattle.eit.specs.declared.Identity.{Identity}
use Rattle.sections.specs.Segment.{first_section}
use Rattle.sections.specs.Section.{Section}
use Rattle.sections.specs.Count.{is_in_first, segment_sections}
use Rattle.sections.proofs.Count.{in_first, first_in, first_more, first_same, first_append}
use Rattle.sections.specs.Each.{each}
use Rattle.schedule.specs.Extent.{table_segments, last_table, last_segment, is_inside}
use Rattle.schedule.specs.SectionsOf.{packed_segment, header_of, numbered_from, sections_of_segment, sections_of_table}
use Rattle.schedule.specs.SectionsOf.{sections_of}
use Rattle.sections.proofs.Each.{joined_map, joined_none, joined_only}
use Rattle.schedule.proofs.Extent.{segment_in_table, is_inside_holds, inside_is}
use Rattle.schedule.proofs.Held.{table_is, file_is}

module _ (sizes : Sizes) (identity : Identity) (es : List Event) (index : ℕ) where
  -- the sections of the segment, numbered from S on, up to s0 + 7
  all_inside : (S : ℕ) (ps : List (List Event)) → first_section index ≤ S → S + length ps ≤ first_section index + 8
      → segment_sections index (numbered_from sizes identity es index S ps) ≡ numbered_from sizes identity es index S ps
  all_inside S [] least most = refl
  all_inside S (p ∷ ps) least most =
      let s : Section = record { header = header_of sizes identity es index S; events = p } in
      let rest : List Section = numbered_from sizes identity es index (suc S) ps in
      first_more index 8 s rest (first_in index 8 s.header refl least (omega arith))
      ∙ ap (λ (ss : List Section). s ∷ ss) (all_inside (suc S) ps (omega arith) (omega arith))

  -- those of another segment
  none_inside : (other S : ℕ) (ps : List (List Event)) → (other ≡ index → ⊥)
      → first_section other ≤ S → S + length ps ≤ first_section other + 8
      → segment_sections index (numbered_from sizes identity es other S ps) ≡ []
  none_inside other S [] apart least most = refl
  none_inside other S (p ∷ ps) apart least most =
      let s : Section = record { header = header_of sizes identity es other S; events = p } in
      let rest : List Section = numbered_from sizes identity es other (suc S) ps in
      let outside : T (not (is_in_first index 8 s.header)) =
      not_T (is_in_first index 8 s.header)
      (λ inside. let (table, low, high) = in_first index 8 s.header inside in apart (omega arith)) in
      first_same index 8 s rest outside ∙ none_inside other (suc S) ps apart (omega arith) (omega arith)

  module _ (few : (other : ℕ) → length (packed_segment sizes es other) ≤ 8) where
    abbrev in_segment : List Section → List Section
    in_segment ss = segment_sections index ss

    part_inside : in_segment (sections_of_segment sizes identity es index) ≡ sections_of_segment sizes identity es index
    unfolding sections_of_segment
    part_inside =
        all_inside (first_section index) (packed_segment sizes es index) (omega arith) (omega (arith, few index))

    part_outside : (other : ℕ) → (other ≡ index → ⊥) → in_segment (sections_of_segment sizes identity es other) ≡ []
    unfolding sections_of_segment
    part_outside other apart =
        none_inside other (first_section other) (packed_segment sizes es other) apart (omega arith)
        (omega (arith, few other))

    -- of a table
    table_parts : (table : ℕ) → in_segment (sections_of_table sizes identity es table)
        ≡ flatten (each (λ (k : ℕ). in_segment (sections_of_segment sizes identity es k)) (table * table_segments)
        (suc (last_segment es table - table * table_segments)))
    table_parts table =
        ap in_segment (table_is sizes identity es table)
        ∙ joined_map in_segment refl (first_append index 8) (sections_of_segment sizes identity es) (table * table_segments)
        (suc (last_segment es table - table * table_segments))

    table_inside : index ≤ last_segment es (index / 32)
        → in_segment (sections_of_table sizes identity es (index / 32)) ≡ sections_of_segment sizes identity es index
    table_inside early =
        let first : ℕ = index / 32 * 32 in
        table_parts (index / 32)
        ∙ joined_only (λ (k : ℕ). in_segment (sections_of_segment sizes identity es k)) index first
        (suc (last_segment es (index / 32) - first)) (λ k apart. part_outside k apart) (omega arith) (omega arith)
        ∙ part_inside

    table_outside : (table : ℕ) → (table * 32 ≤ index → index ≤ last_segment es table → ⊥)
        → in_segment (sections_of_table sizes identity es table) ≡ []
    table_outside table outside =
        let inside : last_segment es table / 32 ≡ table = segment_in_table es table in
        table_parts table
        ∙ joined_none (λ (k : ℕ). in_segment (sections_of_segment sizes identity es k)) (table * 32)
        (suc (last_segment es table - table * 32))
        (λ k low high. part_outside k (λ same. outside (omega arith) (omega arith)))

    -- of the file
    file_parts : in_segment (sections_of sizes identity es)
        ≡ flatten (each (λ (k : ℕ). in_segment (sections_of_table sizes identity es k)) 0 (suc (last_table es)))
    file_parts =
        ap in_segment (file_is sizes identity es)
        ∙ joined_map in_segment refl (first_append index 8) (sections_of_table sizes identity es) 0 (suc (last_table es))

    -- a table has the segment only if it is the segment's table
    own_table : (table : ℕ) → table * 32 ≤ index → index ≤ last_segment es table → table ≡ index / 32
    own_table table low high = omega (arith, segment_in_table es table)

    pub sections_inside : T (is_inside es index)
        → segment_sections index (sections_of sizes identity es) ≡ sections_of_segment sizes identity es index
    sections_inside inside =
        let (table, segment) = inside_is es index inside in
        file_parts
        ∙ joined_only (λ (k : ℕ). in_segment (sections_of_table sizes identity es k)) (index / 32) 0 (suc (last_table es))
        (λ k apart. table_outside k (λ low high. apart (own_table k low high))) (omega arith) (omega arith)
        ∙ table_inside segment

    pub sections_outside : T (not (is_inside es index)) → segment_sections index (sections_of sizes identity es) ≡ []
    sections_outside outside =
        file_parts
        ∙ joined_none (λ (k : ℕ). in_segment (sections_of_table sizes identity es k)) 0 (suc (last_table es))
        (λ k low most. table_outside k (λ first last.
        let own : k ≡ index / 32 = own_table k first last in
        T_not (is_inside es index) outside
        (is_inside_holds es index (omega arith) (subst (λ (table : ℕ). index ≤ last_segment es table) own last))))
