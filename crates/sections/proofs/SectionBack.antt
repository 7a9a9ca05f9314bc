-- Sections that keep the rules come back from their bytes, which state their own length and pass Read's tests: header,
-- event loop and the four bytes of CRC_32 each by its own law. Assumes nothing.
use mathlib.Core.Path.{◌≡◌, refl, sym, ap, subst, ◌∙◌}
use mathlib.Core.Bool.{◌&&◌}
use mathlib.Core.Option.{Option}
use Prim.Native.Nat.{ℕ, ◌+◌, ◌-◌, ◌≤◌}
use native.Mathlib.Omega.{arith}
use mathlib.Core.List.{List, [], ◌∷◌, ◌++◌, map, reverse, append_assoc, append-nil}
use lib.Dec.{T, eqb, leb, le→leb}
use lib.ListN.{length, take, drop, length-map}
use lib.Seq.{take_at, drop_at}
use Rattle.eit.specs.Sizes.{section_overhead}
use Rattle.eit.specs.declared.Sizes.{Sizes}
use Rattle.eit.specs.Limits.{base_day_max}
use Rattle.eit.specs.Fields.{Bytes, big_endian}
use Rattle.eit.specs.Crc.{crc32}
use Rattle.eit.specs.Events.{Event}
use Rattle.eit.specs.declared.Identity.{Identity}
use Rattle.eit.proofs.Test.{tests, eq_test, and_both}
use Rattle.eit.proofs.Fields.{bytes_append, big_endian_bytes}
use Rattle.eit.proofs.Crc.{crc_right}
use Rattle.sections.specs.Every.{Every}
use Rattle.sections.specs.Segment.{table_first, table_max}
use Rattle.sections.specs.Section.{Header, Section, header_size, event_sizes, section_size}
use Rattle.sections.specs.Split.{split_by}
use Rattle.sections.specs.Encode.{event_bytes, header_bytes, event_loop_bytes, covered_bytes, section_bytes}
use Rattle.sections.specs.Decode.{stated_event_size, event_in, stated_section_size, header_in, event_loop, split_events}
use Rattle.sections.specs.Decode.{section_in}
use Rattle.sections.specs.Rules.{Alone, IdentityRules, EventRules, SectionRules}
use Rattle.sections.specs.HeaderTests.{is_table, is_framed, has_right_crc, has_fixed_bits}
use Rattle.sections.specs.HeaderTests.{latest, is_same_file, is_same_version, is_header, is_numbered, is_next}
use Rattle.sections.specs.HeaderTests.{has_right_numbering}
use Rattle.sections.specs.EventTests.{is_filled_or_alone, are_events, are_new, is_event_loop, is_within_limit}
use Rattle.sections.specs.Walk.{Progress, behind}
use Rattle.sections.proofs.Every.{every_map}
use Rattle.sections.proofs.Lengths.{loop_length, header_length, section_length}
use Rattle.sections.proofs.Split.{Stated}
use Rattle.sections.proofs.EventBytes.{Short}
use Rattle.sections.proofs.EventLoop.{loop_bytes, loop_split, sizes_short, events_back, events_are}
use Rattle.sections.proofs.HeaderBytes.{HeaderFits, rules_fit, header_bytes_holds, header_back, header_stated}
use Rattle.sections.proofs.HeaderBytes.{header_fixed}
use Rattle.sections.proofs.Numbering.{numbered_is, alone_is}
use Rattle.sections.proofs.Walk.{Passes}

-- the four bytes behind the event loop, by CRC_32
abbrev crc_bytes : ℕ → Section → List ℕ
crc_bytes base s = big_endian 4 (crc32 (covered_bytes base s))

-- a section in its two and in its three parts
pub section_is : (base : ℕ) (s : Section) → section_bytes base s ≡ covered_bytes base s ++ crc_bytes base s
unfolding section_bytes
section_is base s = refl

pub covered_is : (base : ℕ) (s : Section)
    → covered_bytes base s ≡ header_bytes (section_size s) s.header ++ event_loop_bytes base s.events
unfolding covered_bytes
covered_is base s = refl

section_parts : (base : ℕ) (s : Section)
    → section_bytes base s
    ≡ header_bytes (section_size s) s.header ++ (event_loop_bytes base s.events ++ crc_bytes base s)
section_parts base s =
    section_is base s
    ∙ ap (λ (ds : List ℕ). ds ++ crc_bytes base s) (covered_is base s)
    ∙ append_assoc (header_bytes (section_size s) s.header) (event_loop_bytes base s.events) (crc_bytes base s)

covered_bytes_holds : (base : ℕ) (s : Section) → Every (EventRules s.header) s.events → Bytes (covered_bytes base s)
covered_bytes_holds base s rules =
    rw (covered_is base s)
    (bytes_append (header_bytes (section_size s) s.header) (event_loop_bytes base s.events)
    (header_bytes_holds (section_size s) s.header)
    (loop_bytes base s.events (every_map (λ e r. r.bytes) s.events rules)))

-- a section's bytes are bytes
pub section_bytes_holds : (base : ℕ) (s : Section) → Every (EventRules s.header) s.events → Bytes (section_bytes base s)
section_bytes_holds base s rules =
    rw (section_is base s)
    (bytes_append (covered_bytes base s) (crc_bytes base s) (covered_bytes_holds base s rules)
    (big_endian_bytes 4 (crc32 (covered_bytes base s))))

alone_back : (base : ℕ) (h : Header) (es : List Event) → (es ≡ [] → Alone h)
    → T (is_filled_or_alone h (map (event_bytes base) es))
alone_back base h [] alone = alone_is h (alone refl)
alone_back base h (e ∷ es) alone = tt

-- what holds of a file before its sections: 12 bits reach the section size, the base day is legal, and identity and
-- last_table_id keep the rules
pub record Legal (sizes : Sizes) (base : ℕ) (identity : Identity) (last_table_id : ℕ) : Type 0 where
  pub length_fits : sizes.section_limit ≤ 4_096
  pub day : base ≤ base_day_max
  pub identity_rules : IdentityRules identity
  pub last_table : last_table_id ≤ table_max

-- a section of such a file that keeps the rules
module _ (sizes : Sizes) (base : ℕ) (identity : Identity) (last_table_id : ℕ)
    (legal : Legal sizes base identity last_table_id)
    (s : Section) (rules : SectionRules sizes identity last_table_id s)
  where
    fits : HeaderFits s.header
    fits = rules_fit identity last_table_id s.header legal.identity_rules legal.last_table rules.header_rules

    short : Every Short s.events
    short = sizes_short s.events (omega (arith, legal.length_fits, rules.size))

    pub section_header : header_in (section_bytes base s) ≡ s.header
    section_header = ap header_in (section_parts base s) ∙ header_back (section_size s) s.header _ fits

    -- its event loop
    pub loop_back : event_loop (section_bytes base s) ≡ event_loop_bytes base s.events
    loop_back =
        let size : length (section_bytes base s) - section_overhead ≡ event_sizes s.events =
        omega (arith, section_length base s) in
        ap (λ (n : ℕ). take n (drop header_size (section_bytes base s))) size
        ∙ ap (take (event_sizes s.events))
        (ap (drop header_size) (section_parts base s)
        ∙ drop_at (header_bytes (section_size s) s.header) (event_loop_bytes base s.events ++ crc_bytes base s)
        header_size
        (header_length (section_size s) s.header))
        ∙ take_at (event_loop_bytes base s.events) (crc_bytes base s) (event_sizes s.events)
        (loop_length base s.events)

    split_events_holds : split_events (section_bytes base s) ≡ map (event_bytes base) s.events
    unfolding split_events
    split_events_holds = ap (split_by stated_event_size) loop_back ∙ loop_split base s.events short

    events_shown : map (event_in base) (split_events (section_bytes base s)) ≡ s.events
    events_shown =
        ap (map (event_in base)) split_events_holds
        ∙ events_back base legal.day s.header s.events rules.event_rules short

    -- its bytes show the section
    pub section_back : section_in base (section_bytes base s) ≡ s
    unfolding section_in
    section_back = λ i. record { header = section_header i; events = events_shown i }

    -- and state how many they are
    pub section_stated : Stated stated_section_size (section_bytes base s)
    section_stated =
        let size : length (section_bytes base s) ≡ section_size s = section_length base s in
        record {
          some = omega arith;
          stated =
              λ rest.
              ap stated_section_size
              (ap (λ (ds : List ℕ). ds ++ rest) (section_parts base s)
              ∙ append_assoc (header_bytes (section_size s) s.header)
              (event_loop_bytes base s.events ++ crc_bytes base s) rest)
              ∙ header_stated (section_size s) s.header _ (omega arith)
              (omega (arith, legal.length_fits, rules.size))
              ∙ sym size;
        }

    -- ---- the tests

    framed : T (is_framed sizes (section_bytes base s))
    unfolding is_framed
    framed =
        let bs : List ℕ = section_bytes base s in
        let size : length bs ≡ section_size s = section_length base s in
        let stated : stated_section_size bs ≡ length bs = rw (append-nil bs) at (section_stated.stated []) in
        let table : (header_in bs).table_id ≡ s.header.table_id = ap (λ (h : Header). h.table_id) section_header in
        let whole : T (eqb (length bs) (stated_section_size bs)) = eq_test _ _ (sym stated) in
        let least : T (leb section_overhead (length bs)) = le→leb section_overhead (length bs) (omega arith) in
        let most_bytes : T (leb (length bs) sizes.section_limit) =
        le→leb (length bs) sizes.section_limit (omega (arith, legal.length_fits, rules.size)) in
        let low : T (leb table_first (header_in bs).table_id) =
        le→leb table_first (header_in bs).table_id (omega (arith, rules.header_rules.least)) in
        let high : T (leb (header_in bs).table_id table_max) =
        le→leb (header_in bs).table_id table_max (omega (arith, legal.last_table, rules.header_rules.most)) in
        search tests

    crc_passes : T (has_right_crc (section_bytes base s))
    unfolding has_right_crc
    crc_passes =
        eq_test (crc32 (section_bytes base s)) 0
        (ap crc32 (section_is base s) ∙ crc_right (covered_bytes base s) (covered_bytes_holds base s rules.event_rules))

    fixed : T (has_fixed_bits (section_bytes base s))
    fixed =
        rw (section_parts base s)
        (header_fixed (section_size s) s.header _ (omega arith) (omega (arith, legal.length_fits, rules.size))
        fits.version)

    header_passes : (before : List Header) → T (is_same_file (latest before) s.header)
        → T (is_same_version before s.header)
        → T (is_header before (section_bytes base s))
    unfolding is_header
    header_passes before same version =
        let last_table : T (is_table s.header.last_table_id) =
        and_both (leb table_first s.header.last_table_id) (leb s.header.last_table_id table_max)
        (le→leb table_first s.header.last_table_id
        (omega (arith, rules.header_rules.least, rules.header_rules.most, rules.header_rules.same_last_table)))
        (le→leb s.header.last_table_id table_max
        (omega (arith, legal.last_table, rules.header_rules.same_last_table))) in
        and_both (has_fixed_bits (section_bytes base s)) _ fixed
        (subst
        (λ (h : Header). T (is_table h.last_table_id && (is_same_file (latest before) h && is_same_version before h)))
        (sym section_header) (search tests))

    numbering_passes : (before : Option Header) → T (is_next before s.header)
        → T (has_right_numbering before (header_in (section_bytes base s)))
    unfolding has_right_numbering
    numbering_passes before next =
        let numbered : T (is_numbered s.header) = numbered_is s.header rules.header_rules.numbered in
        let table : T (leb s.header.table_id s.header.last_table_id) =
        le→leb s.header.table_id s.header.last_table_id
        (omega (arith, rules.header_rules.most, rules.header_rules.same_last_table)) in
        subst (λ (h : Header). T (has_right_numbering before h)) (sym section_header) (search tests)

    loop_passes : (seen : List Event) → T (are_new seen s.events) → T (is_event_loop base seen (section_bytes base s))
    unfolding is_event_loop
    loop_passes seen new =
        let events : T (are_events base s.header (map (event_bytes base) s.events)) =
        events_are base legal.day s.header s.events rules.event_rules short in
        let alone : T (is_filled_or_alone s.header (map (event_bytes base) s.events)) =
        alone_back base s.header s.events rules.alone in
        rw (section_header, events_shown, split_events_holds) (search tests)

    limit_passes : (seen : List Event) → length seen + length s.events ≤ sizes.event_limit
        → T (is_within_limit sizes seen (section_bytes base s))
    unfolding is_within_limit
    limit_passes seen few =
        let count : length (split_events (section_bytes base s)) ≡ length s.events =
        ap length split_events_holds ∙ length-map s.events (event_bytes base) in
        le→leb (length seen + length (split_events (section_bytes base s))) sizes.event_limit (omega arith)

    -- it passes where it stands in its place in the file
    pub section_passes : (p : Progress)
        → T (is_same_file (latest p.before) s.header)
        → T (is_same_version p.before s.header)
        → T (is_next (latest p.before) s.header)
        → T (are_new p.seen s.events)
        → length p.seen + length s.events ≤ sizes.event_limit
        → Passes sizes base p (section_bytes base s)
    section_passes p same version next new few =
        record {
          framed = framed;
          crc_right = crc_passes;
          header = header_passes p.before same version;
          numbering = numbering_passes (latest p.before) next;
          loop = loop_passes p.seen new;
          limit = limit_passes p.seen few;
        }

    pub section_behind : (p : Progress)
        → behind base p (section_bytes base s)
        ≡ record {
          offset = p.offset + section_size s;
          before = s.header ∷ p.before;
          seen = reverse s.events ++ p.seen;
        }
    section_behind p =
        λ i. record {
          offset = p.offset + section_length base s i;
          before = section_header i ∷ p.before;
          seen = reverse (events_shown i) ++ p.seen;
        }
