-- The identity that the headers of a file show: headers that pass Read's test have one, and one that they keep the
-- rules with is the one that they show. By induction over the headers, and version by version. Assumes nothing.
use mathlib.Core.Path.{◌≡◌, refl, sym, ap, ◌∙◌}
use mathlib.Core.Logic.{⊎_elim}
use mathlib.Core.Option.{some}
use Prim.Native.Nat.{ℕ, ◌+◌, ◌-◌, ◌≤◌, ◌<◌}
use native.Mathlib.Omega.{arith}
use mathlib.Core.List.{List, [], ◌∷◌}
use lib.Dec.{T}
use lib.ListN.{length, get_or, get_or-eq_default}
use lib.Seq.{ext_get_or}
use Rattle.eit.specs.Identity.{tables}
use Rattle.eit.specs.declared.Identity.{Identity}
use Rattle.eit.proofs.Test.{le_or_lt, eq_or_not}
use Rattle.sections.specs.Every.{Every}
use Rattle.sections.specs.Segment.{table_first, table_max}
use Rattle.sections.specs.Section.{Header, version_of}
use Rattle.sections.specs.Rules.{IdentityRules, HeaderRules}
use Rattle.sections.specs.HeaderTests.{latest, version_in, is_same_file, is_same_version}
use Rattle.sections.specs.Read.{version_or_zero, versions_in, is_complete, identity_of}
use Rattle.sections.proofs.Every.{every_map}
use Rattle.sections.proofs.SameFile.{SameFile, same_file, file_same}
use Rattle.sections.proofs.Version.{NoneOf, version_of_holds, version_here, version_behind, version_none}
use Rattle.sections.proofs.Version.{version_rules_holds, same_version_first, same_version_holds, version_same}
use Rattle.sections.proofs.Version.{versions_length, versions_at}

-- ---- headers that pass

-- g has the triplet and last_table_id of h, which stands before hs, and the version of its table among all of them
pub record Agrees (h : Header) (hs : List Header) (g : Header) : Type 0 where
  pub triplet : g.triplet ≡ h.triplet
  pub last_table : g.last_table_id ≡ h.last_table_id
  pub version : version_in (h ∷ hs) g.table_id ≡ some g.version
  pub least : table_first ≤ g.table_id
  pub most : g.table_id ≤ table_max

-- headers that agree, the latest first
abbrev pub OneFile : List Header → Type 0
OneFile [] = Unit {0}
OneFile (h ∷ hs) = Every (Agrees h hs) (h ∷ hs)

module _ (h : Header) (least : table_first ≤ h.table_id) (most : h.table_id ≤ table_max) where
  itself : (hs : List Header) → Agrees h hs h
  itself hs =
      record {
        triplet = refl;
        last_table = refl;
        version = version_here h hs h.table_id refl;
        least = least;
        most = most;
      }

  -- one that agrees with those before still does
  still_agrees : (f : Header) (hs : List Header) → SameFile f h → T (is_same_version (f ∷ hs) h) → (g : Header)
      → Agrees f hs g → Agrees h (f ∷ hs) g
  still_agrees f hs same version g agrees =
      record {
        triplet = agrees.triplet ∙ sym same.triplet;
        last_table = agrees.last_table ∙ sym same.last_table;
        version =
            ⊎_elim
            (λ is.
            let known : version_in (f ∷ hs) h.table_id ≡ some g.version =
            ap (version_in (f ∷ hs)) is ∙ agrees.version in
            version_here h (f ∷ hs) g.table_id is ∙ ap some (version_same (f ∷ hs) h g.version known version))
            (λ other. version_behind h (f ∷ hs) g.table_id other ∙ agrees.version)
            (eq_or_not h.table_id g.table_id);
        least = agrees.least;
        most = agrees.most;
      }

  -- one more
  pub one_file : (hs : List Header) → OneFile hs → T (is_same_file (latest hs) h) → T (is_same_version hs h)
      → OneFile (h ∷ hs)
  one_file [] agree same version = (itself [], tt)
  one_file (f ∷ hs) agree same version =
      (itself (f ∷ hs), every_map (still_agrees f hs (same_file f h same) version) (f ∷ hs) agree)

-- ---- the identity that they show

-- a header of a file with an identity and last_table_id
pub record HasIdentity (identity : Identity) (last_table_id : ℕ) (h : Header) : Type 0 where
  pub same_triplet : h.triplet ≡ identity.triplet
  pub same_version : h.version ≡ version_of identity h.table_id
  pub same_last_table : h.last_table_id ≡ last_table_id

-- version by version
shown_version : (h : Header) (hs : List Header) (table : ℕ) → table_first ≤ table → table ≤ table_max
    → version_of (identity_of (h ∷ hs)) table ≡ version_or_zero (version_in (h ∷ hs) table)
shown_version h hs table least most =
    let back : table_first + (table - table_first) ≡ table = omega arith in
    version_of_holds (identity_of (h ∷ hs)) table
    ∙ versions_at (h ∷ hs) (table - table_first) (omega arith)
    ∙ ap (λ (t : ℕ). version_or_zero (version_in (h ∷ hs) t)) back

-- every header of one file has the identity that they show
pub has_identity : (h : Header) (hs : List Header) → OneFile (h ∷ hs)
    → Every (HasIdentity (identity_of (h ∷ hs)) h.last_table_id) (h ∷ hs)
has_identity h hs agree =
    every_map
    (λ g agrees.
    record {
      same_triplet = agrees.triplet;
      same_version =
          sym (shown_version h hs g.table_id agrees.least agrees.most ∙ ap version_or_zero agrees.version);
      same_last_table = agrees.last_table;
    })
    (h ∷ hs) agree

-- version 0 for absent tables
pub shown_absent : (hs : List Header) (table : ℕ) → T (is_complete (latest hs)) → table_first ≤ table
    → NoneOf table hs
    → version_of (identity_of hs) table ≡ 0
shown_absent [] table complete least nowhere = absurd complete
shown_absent (h ∷ hs) table complete least nowhere =
    ⊎_elim
    (λ most. shown_version h hs table least most ∙ ap version_or_zero (version_none (h ∷ hs) table nowhere))
    (λ past.
    version_of_holds (identity_of (h ∷ hs)) table
    ∙ get_or-eq_default (versions_in (h ∷ hs)) 0 (omega (arith, versions_length (h ∷ hs))))
    (le_or_lt table table_max)

-- ---- an identity that headers keep the rules with

module _ (identity : Identity) (last_table_id : ℕ) where
  -- a header that keeps them, too, passes
  pub rules_same_file : (hs : List Header) (h : Header) → Every (HeaderRules identity last_table_id) hs
      → HeaderRules identity last_table_id h
      → T (is_same_file (latest hs) h)
  rules_same_file [] h rules this = tt
  rules_same_file (g ∷ hs) h rules this =
      file_same g h (record {
        triplet = this.same_triplet ∙ sym rules.0.same_triplet;
        last_table = this.same_last_table ∙ sym rules.0.same_last_table;
      })

  pub rules_same_version : (hs : List Header) (h : Header) → Every (HeaderRules identity last_table_id) hs
      → HeaderRules identity last_table_id h
      → T (is_same_version hs h)
  rules_same_version hs h rules this =
      ⊎_elim (λ nowhere. same_version_first hs h (version_none hs h.table_id nowhere))
      (λ is. same_version_holds hs h (version_of identity h.table_id) is this.same_version)
      (version_rules_holds identity last_table_id hs h.table_id rules)

  -- it is the one that they show
  pub identity_shown : (hs : List Header) → T (is_complete (latest hs)) → Every (HeaderRules identity last_table_id) hs
      → IdentityRules identity
      → ((table : ℕ) → table_first ≤ table → NoneOf table hs → version_of identity table ≡ 0)
      → identity_of hs ≡ identity
  identity_shown [] complete rules legal absent = absurd complete
  identity_shown (h ∷ hs) complete rules legal absent =
      let each : (k : ℕ) → k < length (versions_in (h ∷ hs)) → get_or (versions_in (h ∷ hs)) k 0
      ≡ get_or identity.versions k 0 =
      λ k few.
      let table : ℕ = table_first + k in
      let back : table - table_first ≡ k = omega arith in
      let small : k < tables = omega (arith, versions_length (h ∷ hs)) in
      versions_at (h ∷ hs) k small
      ∙ ⊎_elim
      (λ nowhere.
      ap version_or_zero (version_none (h ∷ hs) table nowhere) ∙ sym (absent table (omega arith) nowhere))
      (λ is. ap version_or_zero is)
      (version_rules_holds identity last_table_id (h ∷ hs) table rules)
      ∙ version_of_holds identity table
      ∙ ap (λ (j : ℕ). get_or identity.versions j 0) back in
      let same : versions_in (h ∷ hs) ≡ identity.versions =
      ext_get_or 0 (versions_in (h ∷ hs)) identity.versions (versions_length (h ∷ hs) ∙ sym legal.sixteen) each in
      λ i. record { triplet = rules.0.same_triplet i; versions = same i }
