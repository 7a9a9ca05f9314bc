-- Which tables a file has, those up to last_table_id, and that only their versions matter: tables go up by one at most
-- from a section to the next. By induction over the sections. Assumes nothing.
use mathlib.Core.Path.{◌≡◌, sym, ◌∙◌}
use mathlib.Core.Logic.{◌⊎◌, inl, inr, ⊎_elim}
use Prim.Native.Nat.{ℕ, ◌+◌, ◌≤◌, ◌<◌}
use native.Mathlib.Omega.{arith}
use mathlib.Core.List.{List, [], ◌∷◌}
use Rattle.eit.specs.declared.Sizes.{Sizes}
use Rattle.eit.specs.declared.Identity.{Identity}
use Rattle.eit.proofs.Test.{le_or_lt}
use Rattle.sections.specs.Every.{Every}
use Rattle.sections.specs.Segment.{table_first}
use Rattle.sections.specs.Section.{Header, Section, headers_of}
use Rattle.sections.specs.Rules.{Numbered, Next, Succeeding, IdentityRules, SectionRules, Rules}
use Rattle.sections.specs.Exact.{SameUpTo}
use Rattle.sections.proofs.Every.{every_map}

-- from a section to the next the table stays or goes up by one
pub next_table_holds : (g h : Header) → Numbered g → Next g h → (h.table_id ≡ g.table_id) ⊎ (h.table_id ≡ g.table_id + 1)
next_table_holds g h n next =
    ⊎_elim
    (λ ends. ⊎_elim
    (λ last. inr (next.tables (omega (arith, n.segment, n.table))).0)
    (λ inside. inl (next.table (omega (arith, n.segment)) (omega arith)).0.table)
    (le_or_lt g.last_section_number g.section_number))
    (λ inside. inl (next.segment inside).0.table)
    (le_or_lt g.segment_last_section_number g.section_number)

module _ (sizes : Sizes) (identity : Identity) (last_table_id table : ℕ) (most : table ≤ last_table_id) where
  there_behind : (s : Section) (ss : List Section) → Every (SectionRules sizes identity last_table_id) (s ∷ ss)
      → Succeeding s.header (headers_of ss)
      → s.header.table_id ≤ table
      → Every (λ (t : Section). t.header.table_id ≡ table → ⊥) (s ∷ ss)
      → ⊥
  there_behind s [] rules last least nowhere =
      nowhere.0 (omega (arith, last.table, rules.0.header_rules.same_last_table))
  there_behind s (t ∷ ss) rules succeeding least nowhere =
      let before : s.header.table_id < table =
      ⊎_elim (λ past. absurd (nowhere.0 (omega arith))) (λ before. before) (le_or_lt table s.header.table_id) in
      let next : t.header.table_id ≤ table =
      ⊎_elim (λ same. omega arith) (λ up. omega arith)
      (next_table_holds s.header t.header rules.0.header_rules.numbered succeeding.0) in
      there_behind t ss rules.1 succeeding.1 next nowhere.1

-- every table up to last_table_id has a section
pub table_there : (sizes : Sizes) (identity : Identity) (ss : List Section) (rules : Rules sizes identity ss)
    (table : ℕ)
    → table_first ≤ table
    → table ≤ rules.last_table_id
    → Every (λ (s : Section). s.header.table_id ≡ table → ⊥) ss
    → ⊥
table_there sizes identity [] rules table least most nowhere = absurd rules.ordered
table_there sizes identity (s ∷ ss) rules table least most nowhere =
    there_behind sizes identity rules.last_table_id table most s ss rules.sections rules.ordered.1
    (omega (arith, rules.ordered.0.table)) nowhere

pub same_sym : (last_table_id : ℕ) (i j : Identity) → SameUpTo last_table_id i j → SameUpTo last_table_id j i
same_sym last_table_id i j same =
    record {
      triplet = sym same.triplet;
      versions = λ table least most. sym (same.versions table least most);
    }

-- sections that keep the rules with an identity keep them with one that is the same up to last_table_id
pub same_rules : (sizes : Sizes) (i j : Identity) (ss : List Section) (rules : Rules sizes i ss) → IdentityRules j
    → SameUpTo rules.last_table_id i j
    → Rules sizes j ss
same_rules sizes i j ss rules legal same =
    record {
      identity_rules = legal;
      last_table_id = rules.last_table_id;
      last_table = rules.last_table;
      sections =
          every_map
          (λ s r.
          let h = r.header_rules in
          record {
            header_rules =
                record {
                  same_triplet = h.same_triplet ∙ same.triplet;
                  same_version = h.same_version ∙ same.versions s.header.table_id h.least h.most;
                  same_last_table = h.same_last_table;
                  least = h.least;
                  most = h.most;
                  numbered = h.numbered;
                  byte = h.byte;
                };
            event_rules = r.event_rules;
            alone = r.alone;
            size = r.size;
          })
          ss rules.sections;
      ordered = rules.ordered;
      rises = rules.rises;
      differ = rules.differ;
      few = rules.few;
    }
