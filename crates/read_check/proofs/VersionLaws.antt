-- The versions that the code keeps are those of the headers so far: tables come one behind the other, so the table of
-- the latest header tells which have come. By the cases of the next section's table. Assumes nothing.
use mathlib.Core.Path.{◌≡◌, refl, sym, ap, ◌∙◌}
use mathlib.Core.Logic.{⊎_elim}
use mathlib.Core.List.{List, [], ◌∷◌}
use Prim.Native.Nat.{ℕ, ◌+◌, ◌-◌, ◌≤◌, ◌<◌}
use native.Mathlib.Omega.{arith}
use borrow.Author.Tests.{lt-ltb, le-ltb}
use lib.Dec.{T}
use lib.ListN.{get_or, set, length-set}
use lib.Seq.{ext_get_or, get_or-set_same, get_or-set_other}
use Rattle.eit.specs.Identity.{tables}
use Rattle.eit.proofs.Test.{le_or_lt, eq_or_not}
use Rattle.sections.specs.Segment.{table_first, table_max}
use Rattle.sections.specs.Section.{Header, table_version}
use Rattle.sections.specs.HeaderTests.{latest, version_in, is_same_version, is_next}
use Rattle.sections.specs.Read.{version_or_zero, versions_in}
use Rattle.sections.proofs.Numbering.{is_first, is_next_table}
use Rattle.sections.proofs.Version.{version_here, version_behind, versions_length, versions_at}
use Rattle.codec_section.specs.Versions.{with_version}
use Rattle.read_checks.specs.HeaderBefore.{is_table_version}
use Rattle.read_check.specs.Tracks.{TablesCome}

-- ---- which tables have come

-- one more header
pub tables_come : (hs : List Header) (h : Header) → TablesCome hs → T (is_next (latest hs) h) → TablesCome (h ∷ hs)
tables_come [] h come next = λ table least. (
  λ most.
      let here : h.table_id ≡ table = omega (arith, (is_first h next).table) in
      (h.version, version_here h [] table here),
  λ past. version_behind h [] table (λ is. omega arith),
)
tables_come (g ∷ hs) h come next = λ table least.
    let near : (g.table_id ≤ h.table_id) × (h.table_id ≤ g.table_id + 1) =
    ⊎_elim (λ same. (omega arith, omega arith)) (λ up. (omega arith, omega arith)) (is_next_table g h next) in (
      λ most. ⊎_elim
          (λ here. (h.version, version_here h (g ∷ hs) table here))
          (λ other.
          let (version, is) = (come table least).0 (omega (arith, near.1, other)) in
          (version, version_behind h (g ∷ hs) table other ∙ is))
          (eq_or_not h.table_id table),
      λ past. version_behind h (g ∷ hs) table (λ is. omega arith) ∙ (come table least).1 (omega (arith, near.0)),
    )

-- ---- the versions with one more

module _ (hs : List Header) (h : Header) (least : table_first ≤ h.table_id) (most : h.table_id ≤ table_max) where
  pub versions_noted : versions_in (h ∷ hs) ≡ with_version (versions_in hs) h.table_id h.version
  versions_noted =
      let k : ℕ = h.table_id - table_first in
      ext_get_or 0 (versions_in (h ∷ hs)) (set (versions_in hs) k h.version)
      (versions_length (h ∷ hs) ∙ sym (length-set (versions_in hs) k h.version ∙ versions_length hs))
      (λ j few.
      let small : j < tables = omega (arith, versions_length (h ∷ hs)) in
      versions_at (h ∷ hs) j small
      ∙ ⊎_elim
      (λ is.
      ap version_or_zero (version_here h hs (table_first + j) (omega arith))
      ∙ sym (ap (λ (m : ℕ). get_or (set (versions_in hs) k h.version) m 0) is
      ∙ get_or-set_same (versions_in hs) k h.version 0 (omega (arith, versions_length hs))))
      (λ other.
      ap version_or_zero (version_behind h hs (table_first + j) (λ is. other (omega arith)))
      ∙ sym (get_or-set_other (versions_in hs) k j h.version 0 other ∙ versions_at hs j small))
      (eq_or_not j k))

-- ---- the test of the code is that of the definition

module _ (h : Header) (least : table_first ≤ h.table_id) (most : h.table_id ≤ table_max) where
  pub same_test : (hs : List Header) → TablesCome hs
      → is_same_version hs h ≡ is_table_version (latest hs) (versions_in hs) h
  unfolding is_same_version
  same_test [] come = refl
  same_test (g ∷ hs) come =
      ⊎_elim
      (λ seen.
      let (version, is) = (come h.table_id least).0 seen in
      let known : table_version (versions_in (g ∷ hs)) h.table_id ≡ version =
      versions_at (g ∷ hs) (h.table_id - table_first) (omega arith)
      ∙ ap (λ (t : ℕ). version_or_zero (version_in (g ∷ hs) t)) (omega arith)
      ∙ ap version_or_zero is in
      rw (is_same_version, is, le-ltb g.table_id h.table_id seen, known))
      (λ past. rw (is_same_version, (come h.table_id least).1 past, lt-ltb g.table_id h.table_id past))
      (le_or_lt h.table_id g.table_id)
