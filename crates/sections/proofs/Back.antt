-- A file of sections that keep the rules is accepted: each section passes, with those before it known, and the file is
-- complete. By induction over the sections. Assumes nothing.
use mathlib.Core.Path.{sym, subst}
use Prim.Native.Nat.{ℕ, ◌+◌, ◌≤◌}
use native.Mathlib.Omega.{arith}
use mathlib.Core.List.{List, [], ◌∷◌, ◌++◌, map, reverse}
use lib.Dec.{T}
use lib.ListN.{length, length-append}
use Rattle.eit.specs.declared.Sizes.{Sizes}
use Rattle.eit.specs.declared.Identity.{Identity}
use Rattle.sections.specs.Every.{Every}
use Rattle.sections.specs.Section.{Section, section_size, headers_of, section_events}
use Rattle.sections.specs.Encode.{section_bytes}
use Rattle.sections.specs.Rules.{Succeeding, Ordered, HeaderRules, SectionRules}
use Rattle.sections.specs.HeaderTests.{latest, is_next}
use Rattle.sections.specs.EventTests.{are_new}
use Rattle.sections.specs.Walk.{Progress, at_start, behind_all}
use Rattle.sections.specs.Read.{is_complete}
use Rattle.sections.proofs.Numbering.{first_is, next_is, last_is}
use Rattle.sections.proofs.Order.{seen_length, new_parts}
use Rattle.sections.proofs.Walk.{AllPass}
use Rattle.sections.proofs.Identity.{rules_same_file, rules_same_version}
use Rattle.sections.proofs.SectionBack.{Legal, section_passes, section_behind}

-- every section passes from p on, and behind them the file is complete
pub record Accepts (sizes : Sizes) (base : ℕ) (p : Progress) (xs : List (List ℕ)) : Type 0 where
  pub all : AllPass sizes base p xs
  pub complete : T (is_complete (latest (behind_all base p xs).before))

module _ (sizes : Sizes) (base : ℕ) (identity : Identity) (last_table_id : ℕ)
    (legal : Legal sizes base identity last_table_id) where
  -- what is known behind a section that keeps the rules
  abbrev known_behind : Progress → Section → Progress
  known_behind p s =
      record {
        offset = p.offset + section_size s;
        before = s.header ∷ p.before;
        seen = reverse s.events ++ p.seen;
      }

  -- the headers before keep the rules
  abbrev Kept : Progress → Type 0
  Kept p = Every (HeaderRules identity last_table_id) p.before

  -- one section, before some that are accepted
  accepts_one : (p : Progress) (s : Section) (xs : List (List ℕ))
      → SectionRules sizes identity last_table_id s
      → Kept p
      → T (is_next (latest p.before) s.header)
      → T (are_new p.seen s.events)
      → length p.seen + length s.events ≤ sizes.event_limit
      → Accepts sizes base (known_behind p s) xs
      → Accepts sizes base p (section_bytes base s ∷ xs)
  accepts_one p s xs rules kept next new few rest =
      let same = rules_same_file identity last_table_id p.before s.header kept rules.header_rules in
      let version = rules_same_version identity last_table_id p.before s.header kept rules.header_rules in
      let passes = section_passes sizes base identity last_table_id legal s rules p same version next new few in
      let behind = section_behind sizes base identity last_table_id legal s rules p in
      let others = subst (λ (q : Progress). Accepts sizes base q xs) (sym behind) rest in
      record { all = (passes, others.all); complete = others.complete }

  -- one, and those behind it
  accepts : (ss : List Section) (p : Progress) (s : Section)
      → Every (SectionRules sizes identity last_table_id) (s ∷ ss)
      → Kept p
      → T (is_next (latest p.before) s.header)
      → Succeeding s.header (headers_of ss)
      → T (are_new p.seen (section_events (s ∷ ss)))
      → length p.seen + length (section_events (s ∷ ss)) ≤ sizes.event_limit
      → Accepts sizes base p (map (section_bytes base) (s ∷ ss))
  unfolding section_events
  accepts [] p s rules kept next succeeding new few =
      let (first, others) = new_parts p.seen s.events [] new in
      accepts_one p s [] rules.0 kept next first (omega (arith, length-append s.events []))
      (record { all = tt; complete = last_is s.header succeeding })
  accepts (t ∷ ss) p s rules kept next succeeding new few =
      let this = rules.0.header_rules in
      let (first, others) = new_parts p.seen s.events (section_events (t ∷ ss)) new in
      let count = length-append s.events (section_events (t ∷ ss)) in
      let behind = next_is s.header t.header this.numbered succeeding.0 in
      accepts_one p s (map (section_bytes base) (t ∷ ss)) rules.0 kept next first (omega arith)
      (accepts ss (known_behind p s) t rules.1 (this, kept) behind succeeding.1 others
      (omega (arith, seen_length s.events p.seen)))

  -- all of them
  pub all_back : (ss : List Section)
      → Every (SectionRules sizes identity last_table_id) ss
      → Ordered (headers_of ss)
      → T (are_new [] (section_events ss))
      → length (section_events ss) ≤ sizes.event_limit
      → Accepts sizes base at_start (map (section_bytes base) ss)
  all_back [] rules ordered new few = absurd ordered
  all_back (s ∷ ss) rules ordered new few =
      accepts ss at_start s rules tt (first_is s.header ordered.0) ordered.1 new (omega arith)
