-- An accepted file has at most 16 × 256 sections, and so at most as many bytes as these: table and section_number, read
-- as one number, rise from each section to the next. By induction over the sections. Assumes nothing.
use mathlib.Core.Path.{◌≡◌, sym, ap, ◌∙◌}
use mathlib.Core.Logic.{⊎_elim}
use Prim.Native.Nat.{ℕ, ◌+◌, ◌*◌, ◌≤◌, ◌<◌}
use native.Mathlib.Omega.{arith}
use native.Mathlib.Nat.{mul-le-mul_right}
use mathlib.Core.List.{List, [], ◌∷◌}
use lib.ListN.{length}
use Rattle.eit.specs.declared.Sizes.{Sizes}
use Rattle.eit.specs.Fields.{Bytes}
use Rattle.eit.specs.declared.Identity.{Identity}
use Rattle.eit.proofs.Test.{le_or_lt}
use Rattle.sections.specs.Every.{Every}
use Rattle.sections.specs.Segment.{table_max}
use Rattle.sections.specs.Section.{Header, Section, section_sizes, headers_of}
use Rattle.sections.specs.Decode.{sections_in}
use Rattle.sections.specs.Rules.{Numbered, Next, Succeeding, SectionRules, Rules}
use Rattle.sections.specs.Read.{check_file}
use Rattle.sections.proofs.Lengths.{file_length}
use Rattle.sections.proofs.Exact.{accepted_rules}

-- a section's key: its order by table and number among all that a file could have
abbrev pub section_key : Header → ℕ
section_key h = h.table_id * 256 + h.section_number

-- which rises from a section to the next
pub next_later : (g h : Header) → Numbered g → g.last_section_number < 256 → Next g h → section_key g < section_key h
next_later g h n byte next =
    ⊎_elim
    (λ ends. ⊎_elim
    (λ last. let (table, section) = next.tables (omega (arith, n.segment, n.table)) in
    omega (arith, n.segment, n.table))
    (λ inside. let (within, section) = next.table (omega (arith, n.segment)) (omega arith) in
    omega (arith, within.table))
    (le_or_lt g.last_section_number g.section_number))
    (λ inside. let (within, section, same) = next.segment inside in omega (arith, within.table))
    (le_or_lt g.segment_last_section_number g.section_number)

module _ (sizes : Sizes) (identity : Identity) (last_table_id : ℕ) (most : last_table_id ≤ table_max) where
  behind_few : (s : Section) (ss : List Section)
      → Every (SectionRules sizes identity last_table_id) (s ∷ ss)
      → Succeeding s.header (headers_of ss)
      → section_key s.header + length (s ∷ ss) ≤ (table_max + 1) * 256
  behind_few s [] rules succeeding =
      let h = rules.0.header_rules in
      omega (arith, h.most, h.byte, h.numbered.segment, h.numbered.table)
  behind_few s (t ∷ ss) rules succeeding =
      let h = rules.0.header_rules in
      let later : section_key s.header < section_key t.header =
      next_later s.header t.header h.numbered h.byte succeeding.0 in
      omega (arith, behind_few t ss rules.1 succeeding.1)

  sizes_few : (ss : List Section) → Every (SectionRules sizes identity last_table_id) ss
      → section_sizes ss ≤ length ss * sizes.section_limit
  sizes_few [] rules = omega arith
  sizes_few (s ∷ ss) rules = omega (arith, rules.0.size, sizes_few ss rules.1)

pub sections_few : (sizes : Sizes) (identity : Identity) (ss : List Section) → Rules sizes identity ss
    → length ss ≤ 16 * 256
sections_few sizes identity [] rules = absurd rules.ordered
sections_few sizes identity (s ∷ ss) rules =
    let first = rules.ordered.0 in
    omega (
      arith,
      first.table,
      first.section,
      behind_few sizes identity rules.last_table_id rules.last_table s ss rules.sections rules.ordered.1,
    )

-- an accepted file has at most as many bytes as 16 × 256 sections
pub accepted_size : (sizes : Sizes) (base : ℕ) (file : List ℕ)
    → Bytes file
    → (check_file sizes base file).number ≡ 0
    → length file ≤ 16 * 256 * sizes.section_limit
accepted_size sizes base file bytes zero =
    let ss : List Section = sections_in base file in
    let identity : Identity = (check_file sizes base file).identity in
    let (rules, joined) = accepted_rules sizes base file bytes zero in
    let size : length file ≡ section_sizes ss = sym (ap length joined) ∙ file_length base ss in
    let few : length ss ≤ 16 * 256 = sections_few sizes identity ss rules in
    let most : section_sizes ss ≤ length ss * sizes.section_limit =
    sizes_few sizes identity rules.last_table_id rules.last_table ss rules.sections in
    omega (arith, mul-le-mul_right sizes.section_limit few)
