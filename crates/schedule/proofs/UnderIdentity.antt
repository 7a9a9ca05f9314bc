-- Build's sections under another identity are the same but for triplet and versions, so only the versions of the tables
-- that its file has matter. Section by section. Assumes nothing.
use mathlib.Core.Path.{◌≡◌, refl, sym, ap, ap₂, ◌∙◌}
use mathlib.Core.Logic.{⊎_elim}
use mathlib.Core.List.{List, [], ◌∷◌, map, map-append, flatten}
use Prim.Native.Nat.{ℕ, zero, suc, ◌+◌, ◌-◌, ◌*◌, ◌≤◌, ◌<◌}
use native.Mathlib.Omega.{arith}
use lib.ListN.{length, get_or, take, drop, replicate, length-append, length-replicate, take-append-drop}
use lib.ListN.{get_or-append, get_or-replicate, get_or-eq_default}
use lib.Seq.{length-take-le, get_or-append-add}
use Rattle.eit.specs.declared.Sizes.{Sizes}
use Rattle.eit.specs.Limits.{version_max}
use Rattle.eit.specs.Identity.{tables}
use Rattle.eit.specs.Events.{Event}
use Rattle.eit.specs.declared.Identity.{Identity}
use Rattle.eit.proofs.Test.{le_or_lt}
use Rattle.sections.specs.Every.{Every}
use Rattle.sections.specs.Segment.{table_first, first_section}
use Rattle.sections.specs.Section.{version_of, Section, section_sizes}
use Rattle.sections.specs.Rules.{IdentityRules, HeaderRules}
use Rattle.sections.specs.Exact.{SameUpTo}
use Rattle.sections.proofs.Every.{every_append, every_parts}
use Rattle.sections.proofs.Each.{each_same, joined_map}
use Rattle.sections.proofs.Version.{version_of_holds}
use Rattle.schedule.specs.Extent.{table_segments, last_table, last_table_id_of, last_segment}
use Rattle.schedule.specs.SectionsOf.{packed_segment, header_of, numbered_from, sections_of_segment, sections_of_table}
use Rattle.schedule.specs.SectionsOf.{sections_of}
use Rattle.schedule.specs.Given.{with_tables}
use Rattle.schedule.proofs.Held.{table_is, file_is}
use Rattle.schedule.proofs.Numbers.{headers_keep}

-- a section in a file with an identity
abbrev pub under : Identity → Section → Section
under identity s =
    record {
      header =
          record {
            table_id = s.header.table_id;
            section_number = s.header.section_number;
            last_section_number = s.header.last_section_number;
            segment_last_section_number = s.header.segment_last_section_number;
            last_table_id = s.header.last_table_id;
            triplet = identity.triplet;
            version = version_of identity s.header.table_id;
          };
      events = s.events;
    }

module _ (sizes : Sizes) (es : List Event) (i j : Identity) where
  numbered_under : (index S : ℕ) (ps : List (List Event))
      → map (under j) (numbered_from sizes i es index S ps) ≡ numbered_from sizes j es index S ps
  numbered_under index S [] = refl
  numbered_under index S (p ∷ ps) =
      ap (λ (ss : List Section). record { header = header_of sizes j es index S; events = p } ∷ ss)
      (numbered_under index (suc S) ps)

  segment_under : (index : ℕ)
      → map (under j) (sections_of_segment sizes i es index) ≡ sections_of_segment sizes j es index
  unfolding sections_of_segment
  segment_under index = numbered_under index (first_section index) (packed_segment sizes es index)

  -- a table's sections
  table_under : (table : ℕ) → map (under j) (sections_of_table sizes i es table) ≡ sections_of_table sizes j es table
  table_under table =
      let first : ℕ = table * table_segments in
      let n : ℕ = suc (last_segment es table - first) in
      ap (map (under j)) (table_is sizes i es table)
      ∙ joined_map (map (under j)) refl (λ ss ts. map-append (under j) ss ts) (sections_of_segment sizes i es) first n
      ∙ ap flatten (each_same _ (sections_of_segment sizes j es) first n segment_under)
      ∙ sym (table_is sizes j es table)

  -- and the file's
  pub sections_under : map (under j) (sections_of sizes i es) ≡ sections_of sizes j es
  sections_under =
      let n : ℕ = suc (last_table es) in
      ap (map (under j)) (file_is sizes i es)
      ∙ joined_map (map (under j)) refl (λ ss ts. map-append (under j) ss ts) (sections_of_table sizes i es) 0 n
      ∙ ap flatten (each_same _ (sections_of_table sizes j es) 0 n table_under)
      ∙ sym (file_is sizes j es)

  -- so under both it has as many bytes
  under_sizes : (ss : List Section) → section_sizes (map (under j) ss) ≡ section_sizes ss
  under_sizes [] = refl
  under_sizes (s ∷ ss) = omega (arith, under_sizes ss)

  pub sizes_same : section_sizes (sections_of sizes j es) ≡ section_sizes (sections_of sizes i es)
  sizes_same = ap section_sizes (sym sections_under) ∙ under_sizes (sections_of sizes i es)

  -- sections that keep the rules with an identity are the same under one that is the same up to last_table_id
  same_under : (last_table_id : ℕ) (ss : List Section) → SameUpTo last_table_id i j
      → Every (λ (s : Section). HeaderRules i last_table_id s.header) ss
      → map (under j) ss ≡ ss
  same_under last_table_id [] same rules = refl
  same_under last_table_id (s ∷ ss) same rules =
      let h = rules.0 in
      let triplet : j.triplet ≡ s.header.triplet = sym (h.same_triplet ∙ same.triplet) in
      let version : version_of j s.header.table_id ≡ s.header.version =
      sym (h.same_version ∙ same.versions s.header.table_id h.least h.most) in
      ap₂ (λ (t : Section) (ts : List Section). t ∷ ts)
      (λ k. record {
        header = record {
          table_id = s.header.table_id;
          section_number = s.header.section_number;
          last_section_number = s.header.last_section_number;
          segment_last_section_number = s.header.segment_last_section_number;
          last_table_id = s.header.last_table_id;
          triplet = triplet k;
          version = version k;
        };
        events = s.events;
      })
      (same_under last_table_id ss same rules.1)

  -- only the versions of the tables that the file has matter
  pub sections_same : SameUpTo (last_table_id_of es) i j → sections_of sizes i es ≡ sections_of sizes j es
  sections_same same =
      sym (same_under (last_table_id_of es) (sections_of sizes i es) same (headers_keep sizes i es)) ∙ sections_under

-- ---- the identity with the versions of so many tables

every_take : {A : Type 0} (P : A → Type 0) (n : ℕ) (xs : List A) → Every P xs → Every P (take n xs)
every_take P n xs all =
    (every_parts P (take n xs) (drop n xs) (rw (take-append-drop n xs) all)).0

every_replicate : {A : Type 0} (P : A → Type 0) (n : ℕ) (x : A) → P x → Every P (replicate n x)
every_replicate P zero x is = tt
every_replicate P (suc n) x is = (is, every_replicate P n x is)

module _ (n : ℕ) (few : n ≤ tables) (identity : Identity) (rules : IdentityRules identity) where
  front_length : length (take n identity.versions) ≡ n
  front_length = length-take-le n identity.versions (omega (arith, rules.sixteen))

  pub with_tables_rules : IdentityRules (with_tables n identity)
  with_tables_rules =
      record {
        triplet_rules = rules.triplet_rules;
        sixteen =
            length-append (take n identity.versions) (replicate (tables - n) 0)
            ∙ omega (arith, front_length, length-replicate {A = ℕ} (tables - n) 0);
        version_rules =
            every_append (λ (version : ℕ). version ≤ version_max) (take n identity.versions)
            (replicate (tables - n) 0)
            (every_take (λ (version : ℕ). version ≤ version_max) n identity.versions rules.version_rules)
            (every_replicate (λ (version : ℕ). version ≤ version_max) (tables - n) 0 (omega arith));
      }

  pub with_tables_same : (last_table_id : ℕ) → last_table_id < table_first + n
      → SameUpTo last_table_id identity (with_tables n identity)
  with_tables_same last_table_id last =
      record {
        triplet = refl;
        versions = λ table least most.
            let k : ℕ = table - table_first in
            let front : List ℕ = take n identity.versions in
            version_of_holds identity table
            ∙ ap (λ (vs : List ℕ). get_or vs k 0) (sym (take-append-drop n identity.versions))
            ∙ get_or-append front (drop n identity.versions) 0 k (omega (arith, front_length))
            ∙ sym (get_or-append front (replicate (tables - n) 0) 0 k (omega (arith, front_length)))
            ∙ sym (version_of_holds (with_tables n identity) table);
      }

  pub with_tables_absent : (table : ℕ) → table_first + n ≤ table → version_of (with_tables n identity) table ≡ 0
  with_tables_absent table past =
      let k : ℕ = table - table_first - n in
      let front : List ℕ = take n identity.versions in
      let there : table - table_first ≡ length front + k = omega (arith, front_length) in
      version_of_holds (with_tables n identity) table
      ∙ ap (λ (m : ℕ). get_or (with_tables n identity).versions m 0) there
      ∙ get_or-append-add front (replicate (tables - n) 0) k 0
      ∙ ⊎_elim (λ inside. get_or-eq_default (replicate (tables - n) 0) 0
      (omega (arith, length-replicate {A = ℕ} (tables - n) 0)))
      (λ inside. get_or-replicate {A = ℕ} (tables - n) k 0 0 inside)
      (le_or_lt (tables - n) k)
