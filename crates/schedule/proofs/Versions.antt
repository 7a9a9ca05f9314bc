-- What W-208 claims of Rebuild holds: it is Build under the next versions, and what is left of a table, version and
-- CRC_32 aside, is the same under every versions. Assumes nothing.
use mathlib.Core.Path.{◌≡◌, refl, sym, ap, ap₂, subst, ◌∙◌}
use mathlib.Core.Logic.{◌↔◌, ⊎_elim}
use mathlib.Core.List.{List, [], ◌∷◌, map, flatten}
use Prim.Native.Nat.{ℕ, ◌≤◌}
use native.Mathlib.Omega.{arith}
use lib.Dec.{T}
use Rattle.eit.specs.Sizes.{sizes_of}
use Rattle.eit.specs.declared.Sizes.{Sizes}
use Rattle.eit.specs.declared.Triplet.{Triplet}
use Rattle.eit.specs.Fields.{Bytes}
use Rattle.eit.specs.Pools.{Pools}
use Rattle.eit.specs.Records.{EventList}
use Rattle.eit.specs.Events.{Event}
use Rattle.eit.specs.declared.Identity.{Identity}
use Rattle.eit.proofs.Numbers.{caller_least, caller_most, caller_few}
use Rattle.eit.proofs.Test.{eq_or_not}
use Rattle.sections.specs.Every.{Every}
use Rattle.sections.specs.Segment.{table_first, table_max}
use Rattle.sections.specs.Section.{version_of, Section}
use Rattle.sections.specs.Encode.{header_bytes, covered_bytes, section_bytes, file_bytes}
use Rattle.sections.specs.Decode.{sections_in}
use Rattle.sections.specs.Rules.{IdentityRules, Rules}
use Rattle.sections.specs.Read.{Answer, success, check_file}
use Rattle.sections.proofs.Every.{every_map}
use Rattle.sections.proofs.Read.{check_succeeded, check_below_27, check_not_2}
use Rattle.sections.specs.Exact.{SameUpTo}
use Rattle.sections.proofs.Exact.{accepted_rules, follows_accepted}
use Rattle.sections.proofs.Tables.{table_there}
use Rattle.schedule.specs.Extent.{last_table_id_of}
use Rattle.schedule.specs.SectionsOf.{sections_of}
use Rattle.schedule.specs.Build.{Built, refusal, are_versions, build, file_of}
use Rattle.schedule.specs.Rebuild.{table_sections, unversioned, table_bytes, next_version, next_identity, rebuild}
use Rattle.schedule.specs.Given.{Given, built, events}
use Rattle.schedule.specs.Versions.{NextVersion, given_under, rebuilt, VersionsFor, Versions}
use Rattle.schedule.proofs.Build.{legal_versions, build_leaves}
use Rattle.schedule.proofs.UnderIdentity.{under, sections_under, sections_same}
use Rattle.schedule.proofs.Given.{LegalSizes, legal_sizes, Fits, own_sections, own_file, own_rules, own_last}
use Rattle.schedule.proofs.Given.{own_identity, own_same, own_follows, writes}
use Rattle.schedule.proofs.BuiltFile.{identities_alone}
use Rattle.schedule.proofs.LeftBytes.{left_is}
use Rattle.schedule.proofs.TableBytes.{in_table, in_more, in_other, table_none, table_bytes_holds, same_table}
use Rattle.schedule.proofs.Rebuild.{identity_after, rebuild_refused, rebuild_builds, next_new, next_kept}
use Rattle.schedule.proofs.Rebuild.{next_raised, next_rules, next_triplet, next_at_holds, never_version}

-- ---- what is left of a section under another identity

-- a section with another triplet and version
abbrev labelled : Triplet → ℕ → Section → Section
labelled triplet version s =
    record {
      header =
          record {
            table_id = s.header.table_id;
            section_number = s.header.section_number;
            last_section_number = s.header.last_section_number;
            segment_last_section_number = s.header.segment_last_section_number;
            last_table_id = s.header.last_table_id;
            triplet = triplet;
            version = version;
          };
      events = s.events;
    }

-- the version is not in it
left_any : (base : ℕ) (triplet : Triplet) (v w : ℕ) (s : Section)
    → unversioned (section_bytes base (labelled triplet v s)) ≡ unversioned (section_bytes base (labelled triplet w s))
unfolding covered_bytes header_bytes
left_any base triplet v w s =
    left_is base (labelled triplet v s) ∙ sym (left_is base (labelled triplet w s))

under_left : (base : ℕ) (j : Identity) (s : Section) → s.header.triplet ≡ j.triplet
    → unversioned (section_bytes base (under j s)) ≡ unversioned (section_bytes base s)
under_left base j s triplet =
    left_any base j.triplet (version_of j s.header.table_id) s.header.version s
    ∙ ap (λ (t : Triplet). unversioned (section_bytes base (labelled t s.header.version s))) (sym triplet)

unders_left : (base : ℕ) (j : Identity) (table : ℕ) (ss : List Section)
    → Every (λ (s : Section). s.header.triplet ≡ j.triplet) ss
    → map unversioned (map (section_bytes base) (in_table table (map (under j) ss)))
    ≡ map unversioned (map (section_bytes base) (in_table table ss))
unders_left base j table [] each = refl
unders_left base j table (s ∷ ss) each =
    let rest = unders_left base j table ss each.1 in
    ⊎_elim
    (λ is.
    rw (in_more table (under j s) (map (under j) ss) is, in_more table s ss is)
    (ap₂ (λ (x : List ℕ) (xs : List (List ℕ)). x ∷ xs) (under_left base j s each.0) rest))
    (λ other. rw (in_other table (under j s) (map (under j) ss) other, in_other table s ss other) rest)
    (eq_or_not s.header.table_id table)

-- ---- a table of Build's file under another identity with the same triplet

module _ {sizes : Sizes} (legal : LegalSizes sizes) (g : Given sizes) (fits : Fits g) (j : Identity)
    (rules : IdentityRules j) (triplet : g.identity.triplet ≡ j.triplet) where
  pub table_bytes_under : (table : ℕ)
      → table_bytes table (own_file (given_under g j rules)) ≡ table_bytes table (own_file g)
  table_bytes_under table =
      let own : Rules sizes g.identity (own_sections g) = own_rules legal g fits in
      let other : Rules sizes j (sections_of sizes j (events g)) = own_rules legal (given_under g j rules) fits in
      table_bytes_holds sizes g.base legal.most g.legal_base j (sections_of sizes j (events g)) other table
      ∙ ap (λ (ss : List Section). flatten (map unversioned (map (section_bytes g.base) (in_table table ss))))
      (sym (sections_under sizes (events g) g.identity j))
      ∙ ap flatten
      (unders_left g.base j table (own_sections g)
      (every_map (λ s r. r.header_rules.same_triplet ∙ triplet) (own_sections g) own.sections))
      ∙ sym (table_bytes_holds sizes g.base legal.most g.legal_base g.identity (own_sections g) own table)

-- ---- of an accepted previous file

module _ (sizes : Sizes) (previous : List ℕ) (day : ℕ) (bytes : Bytes previous)
    (zero : (check_file sizes day previous).number ≡ 0) where
  abbrev old : Identity
  old = (check_file sizes day previous).identity

  old_rules : IdentityRules old
  old_rules = (accepted_rules sizes day previous bytes zero).0.identity_rules

  after_rules : (pools : Pools) (list : EventList) (base : ℕ)
      → IdentityRules (identity_after sizes previous day pools list base)
  after_rules pools list base = next_rules old previous _ old_rules

  after_legal : (pools : Pools) (list : EventList) (base : ℕ)
      → T (are_versions (identity_after sizes previous day pools list base).versions)
  after_legal pools list base =
      legal_versions (identity_after sizes previous day pools list base).versions
      (after_rules pools list base).version_rules

  module _ (legal : LegalSizes sizes) (g : Given sizes) (output : List ℕ) where
    abbrev after : Identity
    after = identity_after sizes previous day g.pools g.list g.base

    abbrev g_old : Given sizes
    g_old = given_under g old old_rules

    abbrev g_new : Given sizes
    g_new = given_under g after (after_rules g.pools g.list g.base)

    is_built : rebuilt g previous day output ≡ built g_new output
    is_built = rebuild_builds sizes previous day g.pools g.list g.base output zero

    next : (rebuilt g previous day output).number ≡ 0 → (table : ℕ) → table_first ≤ table → table ≤ table_max
        → NextVersion old previous (file_of (rebuilt g previous day output)) table (version_of after table)
    next wrote table least most =
        let (fits, is, enough, file) = writes g_new output (sym (ap (λ (b : Built). b.number) is_built) ∙ wrote) in
        let is_next_holds : version_of after table ≡ next_version old previous (own_file g_old) table =
        next_at_holds old previous (own_file g_old) table least most in
        let same : table_bytes table (file_of (rebuilt g previous day output)) ≡ table_bytes table (own_file g_old) =
        ap (table_bytes table) (ap file_of is_built ∙ file)
        ∙ table_bytes_under legal g_old fits after (after_rules g.pools g.list g.base)
        (sym (next_triplet old previous _)) table in
        record {
          new = λ none. is_next_holds ∙ next_new old previous (own_file g_old) table none;
          kept = λ there equal. is_next_holds ∙ next_kept old previous (own_file g_old) table there (equal ∙ same);
          raised = λ there other. is_next_holds
              ∙ next_raised old previous (own_file g_old) table there (λ equal. other (equal ∙ sym same));
        }

-- ---- what is aside is version and CRC_32 alone

module _ (sizes : Sizes) (legal : LegalSizes sizes) (a b : ℕ) (first second : List ℕ) (bytes : Bytes first)
    (also : Bytes second) (zero : (check_file sizes a first).number ≡ 0) (too : (check_file sizes b second).number ≡ 0)
    (table : ℕ)
    (version : version_of (check_file sizes a first).identity table
    ≡ version_of (check_file sizes b second).identity table)
  where
    only_those : (table_bytes table first ≡ table_bytes table second)
        ↔ (table_sections table first ≡ table_sections table second)
    only_those =
        let (ours, joined) = accepted_rules sizes a first bytes zero in
        let (theirs, joined-too) = accepted_rules sizes b second also too in
        subst
        (λ (f : List ℕ). (table_bytes table f ≡ table_bytes table second)
        ↔ (table_sections table f ≡ table_sections table second))
        joined
        (subst
        (λ (f : List ℕ). (table_bytes table (file_bytes a (sections_in a first)) ≡ table_bytes table f)
        ↔ (table_sections table (file_bytes a (sections_in a first)) ≡ table_sections table f))
        joined-too
        (same_table sizes legal.most a (check_succeeded sizes a first zero).0
        (check_file sizes a first).identity (sections_in a first) ours b (check_succeeded sizes b second too).0
        (check_file sizes b second).identity (sections_in b second) theirs table version))

-- ---- a list that has not changed

module _ {sizes : Sizes} (legal : LegalSizes sizes) (g : Given sizes) (output other : List ℕ)
    (zero : (built g output).number ≡ 0) where
  stays : rebuilt g (file_of (built g output)) g.base other ≡ built g other
  stays =
      let (fits, is, enough, file) = writes g output zero in
      let ss : List Section = own_sections g in
      let es : List Event = events g in
      let (rules, absent) = own_follows legal g fits in
      let own : Identity = own_identity legal g in
      let read : check_file sizes g.base (own_file g) ≡ success own _ =
      follows_accepted sizes g.base legal.most g.legal_base own ss rules absent in
      let accepted : (check_file sizes g.base (own_file g)).number ≡ 0 = ap (λ (a : Answer). a.number) read in
      let identity : (check_file sizes g.base (own_file g)).identity ≡ own = ap (λ (a : Answer). a.identity) read in
      let after : Identity = next_identity own (own_file g) (own_file g) in
      let again : file_bytes g.base (sections_of sizes own es) ≡ own_file g =
      ap (file_bytes g.base) (sections_same sizes es own g.identity (own_same legal g)) in
      let versions : (table : ℕ) → table_first ≤ table → table ≤ last_table_id_of es
      → version_of after table ≡ version_of g.identity table =
      λ table least most.
      let top : table ≤ table_max = omega (arith, (own_rules legal g fits).last_table, own_last legal g fits) in
      next_at_holds own (own_file g) (own_file g) table least top
      ∙ next_kept own (own_file g) (own_file g) table
      (λ none. table_there sizes g.identity ss (own_rules legal g fits) table least
      (omega (arith, own_last legal g fits))
      (table_none sizes g.base legal.most g.legal_base own ss rules table none))
      refl
      ∙ (own_same legal g).versions table least most in
      let same : SameUpTo (last_table_id_of es) after g.identity =
      record { triplet = next_triplet own (own_file g) (own_file g) ∙ (own_same legal g).triplet; versions = versions } in
      ap (λ (f : List ℕ). rebuilt g f g.base other) file
      ∙ rebuild_builds sizes (own_file g) g.base g.pools g.list g.base other accepted
      ∙ ap (λ (i : Identity). build sizes g.pools g.list g.base i other)
      ((λ k. next_identity (identity k) (own_file g) (file_bytes g.base (sections_of sizes (identity k) es)))
      ∙ ap (next_identity own (own_file g)) again)
      ∙ identities_alone sizes g.pools g.list g.base after g.identity other
      (legal_versions after.versions
      (next_rules own (own_file g) (own_file g) rules.identity_rules).version_rules)
      (legal_versions g.identity.versions g.legal_identity.version_rules) same

-- ---- what holds of a refusal of the previous file and of every Build holds of Rebuild

rebuild_cases : (sizes : Sizes) (previous : List ℕ) (day : ℕ) (pools : Pools) (list : EventList) (base : ℕ)
    (output : List ℕ) (P : Built → Type 0)
    → (((check_file sizes day previous).number ≡ 0 → ⊥)
    → P (refusal (check_file sizes day previous).number (check_file sizes day previous).value output))
    → ((check_file sizes day previous).number ≡ 0
    → P (build sizes pools list base (identity_after sizes previous day pools list base) output))
    → P (rebuild sizes previous day pools list base output)
rebuild_cases sizes previous day pools list base output P refused builds =
    ⊎_elim
    (λ zero. subst P (sym (rebuild_builds sizes previous day pools list base output zero)) (builds zero))
    (λ some. subst P (sym (rebuild_refused sizes previous day pools list base output some)) (refused some))
    (eq_or_not (check_file sizes day previous).number 0)

-- ---- the claims

pub versions_for : (sizes : Sizes) → LegalSizes sizes → VersionsFor sizes
versions_for sizes legal =
    record {
      previous_refused_holds = rebuild_refused sizes;
      builds = λ previous day pools list base output bytes zero. (
        identity_after sizes previous day pools list base,
        after_rules sizes previous day bytes zero pools list base,
        next_triplet (check_file sizes day previous).identity previous _,
        rebuild_builds sizes previous day pools list base output zero,
      );
      versioned = λ g previous day output bytes zero. (
        after sizes previous day bytes zero legal g output,
        after_rules sizes previous day bytes zero g.pools g.list g.base,
        next_triplet (check_file sizes day previous).identity previous _,
        is_built sizes previous day bytes zero legal g output,
        next sizes previous day bytes zero legal g output,
      );
      nothing_else_aside = λ a b first second bytes also zero too table version.
          only_those sizes legal a b first second bytes also zero too table version;
      versions_aside = λ g identity rules triplet output other zero too table.
          let (fits, is, enough, file) = writes g output zero in
          let (also, is-too, enough-too, file-too) = writes (given_under g identity rules) other too in
          ap (table_bytes table) file-too
          ∙ table_bytes_under legal g fits identity rules triplet table
          ∙ ap (table_bytes table) (sym file);
      unchanged = λ g output other zero. stays legal g output other zero;
      never_2 = λ previous day pools list base output bytes two.
          rebuild_cases sizes previous day pools list base output (λ (b : Built). b.number ≡ 2 → ⊥)
          (λ refuses. check_not_2 sizes day previous)
          (λ zero. (never_version sizes pools list base (identity_after sizes previous day pools list base) output
          (after_legal sizes previous day bytes zero pools list base)).0)
          two;
      never_27 = λ previous day pools list base output bytes is.
          rebuild_cases sizes previous day pools list base output (λ (b : Built). b.number ≡ 27 → ⊥)
          (λ refuses also. omega (arith, check_below_27 sizes day previous))
          (λ zero also. omega (
            arith,
            (never_version sizes pools list base (identity_after sizes previous day pools list base) output
                (after_legal sizes previous day bytes zero pools list base)).1,
          ))
          is;
      rebuild_leaves = λ previous day pools list base output.
          rebuild_cases sizes previous day pools list base output
          (λ (b : Built). (b.number ≡ 0 → ⊥) → b.output ≡ output)
          (λ refuses some. refl)
          (λ zero some. build_leaves sizes pools list base (identity_after sizes previous day pools list base)
          output some);
    }

pub versions : Versions
versions caller =
    versions_for (sizes_of caller)
    (legal_sizes (sizes_of caller) (caller_least caller) (caller_most caller) (caller_few caller))
