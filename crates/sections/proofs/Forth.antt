-- A file that Read accepts follows the rules: each section that passes is the bytes of the section that it shows, and
-- what the walk keeps of the sections before says what the rules say of the whole file. By induction over the sections.
-- Assumes nothing.
use mathlib.Core.Path.{◌≡◌, refl, sym, ap, ◌∙◌, subst}
use Prim.Native.Nat.{ℕ, ◌+◌, ◌≤◌}
use native.Mathlib.Omega.{arith}
use mathlib.Core.List.{List, [], ◌∷◌, ◌++◌, map, flatten, reverse, reverse-cons, reverse-append, append_assoc}
use mathlib.Core.List.{append-nil}
use lib.Dec.{T, leb→le}
use lib.ListN.{length, length-append, length-map}
use Rattle.eit.specs.declared.Sizes.{Sizes}
use Rattle.eit.specs.Fields.{Bytes}
use Rattle.eit.specs.Limits.{version_max}
use Rattle.eit.specs.Events.{Event}
use Rattle.eit.specs.declared.Identity.{Identity}
use Rattle.eit.proofs.Test.{tests}
use Rattle.eit.proofs.Fields.{bytes_parts}
use Rattle.sections.specs.Every.{Every}
use Rattle.sections.specs.Segment.{table_max}
use Rattle.sections.specs.Section.{Header, Section, headers_of, section_events}
use Rattle.sections.specs.Encode.{section_bytes}
use Rattle.sections.specs.Decode.{header_in, event_in, split_events, section_in}
use Rattle.sections.specs.Rules.{Numbered, Succeeding, Ordered, TripletRules, IdentityRules, SectionRules, Rules}
use Rattle.sections.specs.HeaderTests.{latest, is_header, has_right_numbering}
use Rattle.sections.specs.EventTests.{are_new, is_event_loop, is_within_limit}
use Rattle.sections.specs.Walk.{Progress, at_start, behind, behind_all}
use Rattle.sections.specs.Read.{is_complete, identity_of}
use Rattle.sections.specs.Exact.{ZeroWhereAbsent}
use Rattle.sections.proofs.Every.{every_reverse, reverse_every, every_headers}
use Rattle.sections.proofs.Version.{NoneOf, versions_length, versions_most}
use Rattle.sections.proofs.Identity.{OneFile, HasIdentity, one_file, has_identity, shown_absent}
use Rattle.sections.proofs.Numbering.{is_first, is_next_holds, is_last}
use Rattle.sections.proofs.Order.{InOrder, seen_length, new_order_holds, new_append}
use Rattle.sections.proofs.Walk.{AllPass}
use Rattle.sections.proofs.SectionForth.{Shown, section_forth}

-- the sections that pieces show
abbrev pub shown : ℕ → List (List ℕ) → List Section
shown base xs = map (section_in base) xs

-- ---- the events

pub shown_seen : (base : ℕ) (p : Progress) (xs : List (List ℕ))
    → (behind_all base p xs).seen ≡ reverse (section_events (shown base xs)) ++ p.seen
unfolding section_events section_in
shown_seen base p [] = refl
shown_seen base p (bs ∷ rest) =
    let es : List Event = map (event_in base) (split_events bs) in
    let fs : List Event = section_events (shown base rest) in
    shown_seen base (behind base p bs) rest
    ∙ sym (append_assoc (reverse fs) (reverse es) p.seen)
    ∙ ap (λ (l : List Event). l ++ p.seen) (sym (reverse-append es fs))

-- and the headers
pub shown_headers : (base : ℕ) (p : Progress) (xs : List (List ℕ))
    → (behind_all base p xs).before ≡ reverse (headers_of (shown base xs)) ++ p.before
unfolding section_in
shown_headers base p [] = refl
shown_headers base p (bs ∷ rest) =
    let hs : List Header = headers_of (shown base rest) in
    shown_headers base (behind base p bs) rest
    ∙ sym (append_assoc (reverse hs) (header_in bs ∷ []) p.before)
    ∙ ap (λ (l : List Header). l ++ p.before) (sym (reverse-cons (header_in bs) hs))

module _ (sizes : Sizes) (base : ℕ) where
  pub shown_new : (p : Progress) (xs : List (List ℕ)) → AllPass sizes base p xs
      → T (are_new p.seen (section_events (shown base xs)))
  unfolding section_events section_in is_event_loop
  shown_new p [] all = tt
  shown_new p (bs ∷ rest) all =
      let es : List Event = map (event_in base) (split_events bs) in
      let loop = all.0.loop in
      new_append p.seen es (section_events (shown base rest)) (search tests)
      (shown_new (behind base p bs) rest all.1)

  pub shown_few : (p : Progress) (xs : List (List ℕ)) → length p.seen ≤ sizes.event_limit
      → AllPass sizes base p xs
      → length p.seen + length (section_events (shown base xs)) ≤ sizes.event_limit
  unfolding section_events section_in is_within_limit
  shown_few p [] few all = omega arith
  shown_few p (bs ∷ rest) few all =
      let es : List Event = map (event_in base) (split_events bs) in
      let fs : List Event = section_events (shown base rest) in
      let count : length es ≡ length (split_events bs) = length-map (split_events bs) (event_in base) in
      let within : length p.seen + length (split_events bs) ≤ sizes.event_limit = leb→le _ _ all.0.limit in
      let rest-few = shown_few (behind base p bs) rest (omega (arith, seen_length es p.seen)) all.1 in
      omega (arith, length-append es fs, seen_length es p.seen)

  -- ---- one section after the other

  all_shown : (p : Progress) (xs : List (List ℕ)) → Bytes (flatten xs) → AllPass sizes base p xs
      → Every (Shown sizes base) xs
  unfolding flatten
  all_shown p [] bytes all = tt
  all_shown p (bs ∷ rest) bytes all =
      let (first, others) = bytes_parts bs (flatten rest) bytes in
      (section_forth sizes base p bs first all.0, all_shown (behind base p bs) rest others all.1)

  shown_bytes : (xs : List (List ℕ)) → Every (Shown sizes base) xs → map (section_bytes base) (shown base xs) ≡ xs
  shown_bytes [] each = refl
  shown_bytes (bs ∷ rest) each = λ i. each.0.bytes i ∷ shown_bytes rest each.1 i

  -- ---- the order of their numbers

  behind_forth : (p : Progress) (g : Header) (before : List Header) (xs : List (List ℕ)) → p.before ≡ g ∷ before
      → Every (Shown sizes base) xs
      → Numbered g
      → AllPass sizes base p xs
      → T (is_complete (latest (behind_all base p xs).before))
      → Succeeding g (headers_of (shown base xs))
  unfolding has_right_numbering section_in
  behind_forth p g before [] is each numbered all complete =
      is_last g (subst (λ (hs : List Header). T (is_complete (latest hs))) is complete)
  behind_forth p g before (bs ∷ rest) is each numbered all complete =
      let h : Header = header_in bs in
      let numbering = subst (λ (hs : List Header). T (has_right_numbering (latest hs) h)) is all.0.numbering in (
        is_next_holds g h numbered (search tests),
        behind_forth (behind base p bs) h p.before rest refl each.1 each.0.numbered all.1 complete,
      )

  all_ordered : (xs : List (List ℕ)) → Every (Shown sizes base) xs → AllPass sizes base at_start xs
      → T (is_complete (latest (behind_all base at_start xs).before))
      → Ordered (headers_of (shown base xs))
  unfolding has_right_numbering section_in
  all_ordered [] each all complete = absurd complete
  all_ordered (bs ∷ rest) each all complete =
      let numbering = all.0.numbering in (
        is_first (header_in bs) (search tests),
        behind_forth (behind base at_start bs) (header_in bs) [] rest refl each.1 each.0.numbered all.1
            complete,
      )

  -- ---- the identity that they have

  -- behind sections that pass, all headers are of one file
  all_one_file : (p : Progress) (xs : List (List ℕ)) → Every (Shown sizes base) xs → AllPass sizes base p xs
      → OneFile p.before
      → OneFile (behind_all base p xs).before
  unfolding is_header has_right_numbering
  all_one_file p [] each all agree = agree
  all_one_file p (bs ∷ rest) each all agree =
      let header = all.0.header in
      let numbering = all.0.numbering in
      let h : Header = header_in bs in
      let table : h.table_id ≤ h.last_table_id = leb→le _ _ (search tests) in
      all_one_file (behind base p bs) rest each.1 all.1
      (one_file h each.0.least (omega (arith, each.0.last_table)) p.before agree (search tests) (search tests))

  rules_of : (identity : Identity) (last_table_id : ℕ) (xs : List (List ℕ)) → Every (Shown sizes base) xs
      → Every (HasIdentity identity last_table_id) (headers_of (shown base xs))
      → Every (SectionRules sizes identity last_table_id) (shown base xs)
  unfolding section_in
  rules_of identity last_table_id [] each has = tt
  rules_of identity last_table_id (bs ∷ rest) each has =
      (each.0.rules identity last_table_id has.0, rules_of identity last_table_id rest each.1 has.1)

  versions_fit : (xs : List (List ℕ)) → Every (Shown sizes base) xs
      → Every (λ (h : Header). h.version ≤ version_max) (headers_of (shown base xs))
  unfolding section_in
  versions_fit [] each = tt
  versions_fit (bs ∷ rest) each = (each.0.fits.version, versions_fit rest each.1)

  -- what the whole file has, by the headers seen, the latest first
  file_rules : (hs : List Header) (bs : List ℕ) (rest : List (List ℕ)) → Every (Shown sizes base) (bs ∷ rest)
      → hs ≡ reverse (headers_of (shown base (bs ∷ rest)))
      → T (is_complete (latest hs))
      → OneFile hs
      → (last_table_id : ℕ) × (last_table_id ≤ table_max) × IdentityRules (identity_of hs)
      × Every (SectionRules sizes (identity_of hs) last_table_id) (shown base (bs ∷ rest))
  unfolding section_in
  file_rules [] bs rest each is complete agree = absurd complete
  file_rules (h ∷ hs) bs rest each is complete agree =
      let gs : List Header = headers_of (shown base (bs ∷ rest)) in
      let identity : Identity = identity_of (h ∷ hs) in
      let has : Every (HasIdentity identity h.last_table_id) gs =
      reverse_every (HasIdentity identity h.last_table_id) gs
      (subst (Every (HasIdentity identity h.last_table_id)) is (has_identity h hs agree)) in
      let few : Every (λ (g : Header). g.version ≤ version_max) (h ∷ hs) =
      subst (Every (λ (g : Header). g.version ≤ version_max)) (sym is)
      (every_reverse (λ (g : Header). g.version ≤ version_max) gs (versions_fit (bs ∷ rest) each)) in (
        h.last_table_id,
        omega (arith, each.0.last_table, has.0.same_last_table),
        record {
          triplet_rules = subst TripletRules has.0.same_triplet each.0.fits.triplet_rules;
          sixteen = versions_length (h ∷ hs);
          version_rules = versions_most (h ∷ hs) few;
        },
        rules_of identity h.last_table_id (bs ∷ rest) each has,
      )

  -- all of them
  pub all_forth : (xs : List (List ℕ)) → Bytes (flatten xs) → AllPass sizes base at_start xs
      → T (is_complete (latest (behind_all base at_start xs).before))
      → (map (section_bytes base) (shown base xs) ≡ xs)
      × Rules sizes (identity_of (behind_all base at_start xs).before) (shown base xs)
      × ZeroWhereAbsent (identity_of (behind_all base at_start xs).before) (shown base xs)
  all_forth [] bytes all complete = absurd complete
  all_forth (bs ∷ rest) bytes all complete =
      let xs : List (List ℕ) = bs ∷ rest in
      let hs : List Header = (behind_all base at_start xs).before in
      let ss : List Section = shown base xs in
      let each : Every (Shown sizes base) xs = all_shown at_start xs bytes all in
      let is : hs ≡ reverse (headers_of ss) = shown_headers base at_start xs ∙ append-nil (reverse (headers_of ss)) in
      let (last_table_id, last_table, identity_rules, sections) =
      file_rules hs bs rest each is complete (all_one_file at_start xs each all tt) in
      let order : InOrder (section_events ss) =
      new_order_holds [] (section_events ss) (record { rises = tt; differ = tt }) (shown_new at_start xs all) in
      let few = shown_few at_start xs (omega arith) all in (
        shown_bytes xs each,
        record {
          identity_rules = identity_rules;
          last_table_id = last_table_id;
          last_table = last_table;
          sections = sections;
          ordered = all_ordered xs each all complete;
          rises = order.rises;
          differ = order.differ;
          few = omega arith;
        },
        λ table least nowhere. shown_absent hs table complete least
            (subst (NoneOf table) (sym is) (every_reverse (λ (h : Header). h.table_id ≡ table → ⊥) (headers_of ss)
            (every_headers (λ (h : Header). h.table_id ≡ table → ⊥) ss nowhere))),
      )
