-- The version that an identity has for a table, and the version of a table's sections among some headers: laws of
-- `version_of` and `version_in`, by induction over the headers. Assumes nothing.
use mathlib.Core.Path.{◌≡◌, refl, ap, ◌∙◌}
use mathlib.Core.Logic.{◌⊎◌, inl, inr, ⊎_elim}
use mathlib.Core.Option.{none, some}
use Prim.Native.Nat.{ℕ, zero, suc, ◌+◌, ◌-◌, ◌≤◌, ◌<◌}
use native.Mathlib.Omega.{arith}
use borrow.Author.Tests.{eq-eqb, ne_eqb}
use mathlib.Core.List.{List, [], ◌∷◌}
use lib.Dec.{T, eqb→eq}
use lib.ListN.{length, get_or}
use Rattle.eit.specs.Limits.{version_max}
use Rattle.eit.specs.Identity.{tables}
use Rattle.eit.specs.declared.Identity.{Identity}
use Rattle.eit.proofs.Test.{eq_test, eq_or_not}
use Rattle.sections.specs.Every.{Every}
use Rattle.sections.specs.Segment.{table_first}
use Rattle.sections.specs.Section.{Header, version_of}
use Rattle.sections.specs.Rules.{IdentityRules, HeaderRules}
use Rattle.sections.specs.HeaderTests.{version_in, is_same_version}
use Rattle.sections.specs.Read.{version_or_zero, versions_in}
use Rattle.sections.proofs.Each.{each_length, each_at, each_every}

-- ---- of an identity

pub version_of_holds : (identity : Identity) (table : ℕ)
    → version_of identity table ≡ get_or identity.versions (table - table_first) 0
unfolding version_of
version_of_holds identity table = refl

-- every element of a list, and 0 behind it, is at most `most`
get_d_most : (most : ℕ) (xs : List ℕ) (k : ℕ) → Every (λ (x : ℕ). x ≤ most) xs → get_or xs k 0 ≤ most
get_d_most most [] k all = omega arith
get_d_most most (x ∷ xs) zero all = all.0
get_d_most most (x ∷ xs) (suc k) all = get_d_most most xs k all.1

-- the versions of an identity that keeps the rules fit their 5 bits
pub version_fits : (identity : Identity) (table : ℕ) → IdentityRules identity → version_of identity table ≤ version_max
version_fits identity table rules =
    rw (version_of_holds identity table)
    (get_d_most version_max identity.versions (table - table_first) rules.version_rules)

-- ---- of some headers

module _ (h : Header) (hs : List Header) (table : ℕ) where
  pub version_here : h.table_id ≡ table → version_in (h ∷ hs) table ≡ some h.version
  version_here is = rw (version_in, eq-eqb h.table_id table is)

  pub version_behind : (h.table_id ≡ table → ⊥) → version_in (h ∷ hs) table ≡ version_in hs table
  version_behind other = rw (version_in, ne_eqb h.table_id table other)

-- no header is of a table
abbrev pub NoneOf : ℕ → List Header → Type 0
NoneOf table hs = Every (λ (h : Header). h.table_id ≡ table → ⊥) hs

pub version_none : (hs : List Header) (table : ℕ) → NoneOf table hs → version_in hs table ≡ none
version_none [] table others = refl
version_none (h ∷ hs) table others =
    version_behind h hs table others.0 ∙ version_none hs table others.1

-- of headers that keep the rules: that of the identity, or the table is absent
pub version_rules_holds : (identity : Identity) (last_table_id : ℕ) (hs : List Header) (table : ℕ)
    → Every (HeaderRules identity last_table_id) hs
    → NoneOf table hs ⊎ (version_in hs table ≡ some (version_of identity table))
version_rules_holds identity last_table_id [] table rules = inl tt
version_rules_holds identity last_table_id (h ∷ hs) table rules =
    ⊎_elim
    (λ is. inr (version_here h hs table is ∙ ap some (rules.0.same_version ∙ ap (version_of identity) is)))
    (λ other.
    ⊎_elim (λ nowhere. inl (other, nowhere)) (λ is. inr (version_behind h hs table other ∙ is))
    (version_rules_holds identity last_table_id hs table rules.1))
    (eq_or_not h.table_id table)

-- ---- Read's test

module _ (hs : List Header) (h : Header) where
  pub same_version_first : version_in hs h.table_id ≡ none → T (is_same_version hs h)
  unfolding is_same_version
  same_version_first nowhere = rw (is_same_version, nowhere) tt

  pub same_version_holds : (version : ℕ) → version_in hs h.table_id ≡ some version → h.version ≡ version
      → T (is_same_version hs h)
  unfolding is_same_version
  same_version_holds version is same = rw (is_same_version, is) (eq_test h.version version same)

  pub version_same : (version : ℕ) → version_in hs h.table_id ≡ some version → T (is_same_version hs h)
      → h.version ≡ version
  unfolding is_same_version
  version_same version is t = eqb→eq h.version version (rw (is_same_version, is) at t)

-- ---- the versions of all tables

pub versions_length : (hs : List Header) → length (versions_in hs) ≡ tables
unfolding versions_in
versions_length hs = each_length (λ (table : ℕ). version_or_zero (version_in hs table)) table_first tables

-- they fit their 5 bits where the headers' do
version_most : (hs : List Header) (table : ℕ) → Every (λ (h : Header). h.version ≤ version_max) hs
    → version_or_zero (version_in hs table) ≤ version_max
version_most [] table few = omega arith
version_most (h ∷ hs) table few =
    ⊎_elim
    (λ is. rw (version_here h hs table is) few.0)
    (λ other. rw (version_behind h hs table other) (version_most hs table few.1))
    (eq_or_not h.table_id table)

pub versions_most : (hs : List Header) → Every (λ (h : Header). h.version ≤ version_max) hs
    → Every (λ (version : ℕ). version ≤ version_max) (versions_in hs)
unfolding versions_in
versions_most hs few =
    each_every (λ (version : ℕ). version ≤ version_max) (λ (table : ℕ). version_or_zero (version_in hs table))
    table_first tables (λ table. version_most hs table few)

pub versions_at : (hs : List Header) (k : ℕ) → k < tables
    → get_or (versions_in hs) k 0 ≡ version_or_zero (version_in hs (table_first + k))
unfolding versions_in
versions_at hs k few = each_at (λ (table : ℕ). version_or_zero (version_in hs table)) 0 table_first tables k few
