-- The checks of one section in code, in their order, are the step of Read's definition: each test that fails is its
-- refusal, and all together are the way on. By the laws of each refusal (`step_20` to `step_26` of sections).
-- Assumes nothing.
use mathlib.Core.Path.{◌≡◌, sym, ap, ap₂, subst, ◌∙◌}
use mathlib.Core.Bool.{Bool, true, false, not, ◌&&◌}
use mathlib.Core.List.{List, map, reverse, ◌++◌}
use mathlib.Core.Option.{some}
use Prim.Native.Nat.{ℕ, ◌+◌, ◌≤◌, ◌<◌}
use native.Mathlib.Omega.{arith}
use lib.Dec.{T, leb→le, le→leb}
use borrow.Author.Tests.{lt-leb}
use lib.ListN.{length, get_or, length-map}
use Rattle.std.specs.Prelude.{Option, Some, None, Ok, option_map}
use Rattle.std.specs.Bool.{then_some}
use Rattle.eit.specs.declared.Sizes.{Sizes}
use Rattle.eit.specs.Fields.{Bytes}
use Rattle.eit.proofs.Fields.{bytes_all}
use Rattle.eit.specs.Events.{Event}
use Rattle.eit.proofs.Test.{tests}
use Rattle.sections.specs.Segment.{table_first, table_max}
use Rattle.sections.specs.Section.{Header}
use Rattle.sections.specs.Decode.{stated_event_size, event_in, header_in, event_loop, split_events}
use Rattle.sections.specs.Split.{split_by}
use Rattle.sections.specs.HeaderTests.{is_table, has_fixed_bits, latest, is_same_file, is_framed, has_right_crc, is_header}
use Rattle.sections.specs.HeaderTests.{is_next, has_right_numbering}
use Rattle.sections.specs.EventTests.{is_event_loop, is_within_limit}
use Rattle.sections.specs.Walk.{Progress, behind, refused, step}
use Rattle.sections.proofs.Walk.{step_passes}
use Rattle.sections.proofs.Answers.{step_20, step_21, step_22, step_23, step_24, step_26}
use Rattle.sections.proofs.Order.{seen_length}
use Rattle.codec_section.specs.HeaderRead.{held_header}
use Rattle.codec_section.specs.Versions.{with_version}
use Rattle.codec_section.specs.declared.header.SectionHeader.{SectionHeader}
use Rattle.read_checks.specs.HeaderBefore.{header_before, is_header_by, checked_header}
use Rattle.read_events.specs.EventPass.{EventPass, checked_events}
use Rattle.read_events.specs.EventsSoFar.{EventsSoFar}
use Rattle.read_events.proofs.EventsSoFarLaws.{loop_checked, loop_so_far}
use Rattle.read_check.specs.Tracks.{Tracks, SameVerdict}
use Rattle.read_check.specs.declared.section.WalkState.{WalkState}
use Rattle.read_check.proofs.VersionLaws.{tables_come, versions_noted, same_test}

-- a test that was made, and its outcome
holds : {a b : Bool} → a ≡ b → a ≡ true → T b
holds made is = subst T (sym is ∙ made) tt

fails : {a b : Bool} → a ≡ b → a ≡ false → T (not b)
fails made is = subst (λ (t : Bool). T (not t)) (sym is ∙ made) tt

-- what is kept of a value, by a test
some_only : {A : Type 0} (b : Bool) {x y : A} → Some y ≡ then_some b x → T b × (y ≡ x)
some_only true kept = (tt, cc)
some_only false kept = cc

none_only : {A : Type 0} (b : Bool) (x : A) → None ≡ then_some b x → T (not b)
none_only true x kept = cc
none_only false x kept = tt

module _ {offset : ℕ} {state : WalkState} {versions words : List ℕ} {p : Progress}
    (tracks : Tracks offset state versions words p)
    (sizes : Sizes)
    (base : ℕ) (bs : List ℕ) where
  -- the section's offset
  at_offset : {number : ℕ} → step sizes base p bs ≡ refused number p.offset
      → step sizes base p bs ≡ refused number offset
  at_offset {number} is = is ∙ ap (refused number) tracks.offset_is

  pub refuses_20 : {framed : Bool} → framed ≡ is_framed sizes bs → framed ≡ false
      → step sizes base p bs ≡ refused 20 offset
  refuses_20 made is = at_offset (step_20 sizes base p bs (fails made is))

  module _ (all : (k : ℕ) → get_or bs k 0 < 256) {framed : Bool} (frame : framed ≡ is_framed sizes bs)
      (frame-holds : framed ≡ true) where
    bytes : Bytes bs
    bytes = bytes_all bs all

    is_framed_holds : T (is_framed sizes bs)
    is_framed_holds = holds frame frame-holds

    pub refuses_21 : {crc_right : Bool} → crc_right ≡ has_right_crc bs → crc_right ≡ false
        → step sizes base p bs ≡ refused 21 offset
    refuses_21 made is = at_offset (step_21 sizes base p bs is_framed_holds (fails made is))

    module _ {crc_right : Bool} (crc : crc_right ≡ has_right_crc bs) (crc-holds : crc_right ≡ true) where
      has_right_crc_holds : T (has_right_crc bs)
      has_right_crc_holds = holds crc crc-holds

      -- a framed section's table is in range
      in_range_holds : (table_first ≤ (header_in bs).table_id) × ((header_in bs).table_id ≤ table_max)
      unfolding is_framed
      in_range_holds = let t = is_framed_holds in (leb→le _ _ (search tests), leb→le _ _ (search tests))

      -- 22 of the definition is that of the code
      same_header : is_header_by (header_before state.before) versions bs ≡ is_header p.before bs
      unfolding is_header
      same_header =
          let g : Header = header_in bs in
          rw (← tracks.before_is, ← tracks.versions_are)
          (ap (λ (b : Bool). has_fixed_bits bs && (is_table g.last_table_id && (is_same_file (latest p.before) g && b)))
          (sym (same_test g in_range_holds.0 in_range_holds.1 p.before tracks.come)))

      pub refuses_22 : {found : Option SectionHeader}
          → option_map held_header found ≡ checked_header (header_before state.before) versions bs → found ≡ None
          → step sizes base p bs ≡ refused 22 offset
      refuses_22 checked is =
          at_offset (step_22 sizes base p bs is_framed_holds has_right_crc_holds
          (subst (λ (b : Bool). T (not b)) same_header
          (none_only (is_header_by (header_before state.before) versions bs) (header_in bs)
          (sym (ap (option_map held_header) is) ∙ checked))))

      module _ {found : Option SectionHeader}
          (header : option_map held_header found ≡ checked_header (header_before state.before) versions bs)
          {h : SectionHeader} (found_is : found ≡ Some h) where
        kept : Some (held_header h) ≡ checked_header (header_before state.before) versions bs
        kept = sym (ap (option_map held_header) found_is) ∙ header

        shown : T (is_header p.before bs) × (held_header h ≡ header_in bs)
        shown =
            let (passes, is) = some_only (is_header_by (header_before state.before) versions bs) kept in
            (subst T same_header passes, is)

        same_numbering : has_right_numbering (header_before state.before) (held_header h)
            ≡ has_right_numbering (latest p.before) (header_in bs)
        same_numbering = ap₂ has_right_numbering (sym tracks.before_is) shown.1

        pub refuses_23 : {numbered : Bool} → numbered ≡ has_right_numbering (header_before state.before) (held_header h)
            → numbered ≡ false
            → step sizes base p bs ≡ refused 23 offset
        refuses_23 made is =
            at_offset (step_23 sizes base p bs is_framed_holds has_right_crc_holds shown.0 (fails (made ∙ same_numbering) is))

        module _ {numbered : Bool}
            (numbering : numbered ≡ has_right_numbering (header_before state.before) (held_header h))
            (numbering-holds : numbered ≡ true)
            {check : EventPass}
            (checked : check
            ≡ checked_events base (held_header h) state.least words (split_by stated_event_size (event_loop bs))) where
          has_right_numbering_holds : T (has_right_numbering (latest p.before) (header_in bs))
          has_right_numbering_holds = holds (numbering ∙ same_numbering) numbering-holds

          passes : check
              ≡ checked_events base (header_in bs) state.least words (split_by stated_event_size (event_loop bs))
          passes =
              checked
              ∙ ap (λ (g : Header). checked_events base g state.least words (split_by stated_event_size (event_loop bs)))
              shown.1

          same_loop : check.keeps_rules ≡ is_event_loop base p.seen bs
          same_loop = ap (λ (e : EventPass). e.keeps_rules) passes ∙ loop_checked base bs bytes p.seen tracks.kept

          pub refuses_24 : check.keeps_rules ≡ false → step sizes base p bs ≡ refused 24 offset
          refuses_24 is =
              at_offset (step_24 sizes base p bs is_framed_holds has_right_crc_holds shown.0 has_right_numbering_holds
              (fails same_loop is))

          module _ (whole : check.keeps_rules ≡ true) where
            is_loop : T (is_event_loop base p.seen bs)
            is_loop = holds same_loop whole

            kept_events : (check.events ≡ length (split_events bs))
                × EventsSoFar check.least check.words (reverse (map (event_in base) (split_events bs)) ++ p.seen)
            kept_events =
                subst
                (λ (e : EventPass).
                (e.events ≡ length (split_events bs))
                × EventsSoFar e.least e.words (reverse (map (event_in base) (split_events bs)) ++ p.seen))
                (sym passes)
                (loop_so_far base bs bytes p.seen tracks.kept
                (subst T (sym (loop_checked base bs bytes p.seen tracks.kept)) is_loop))

            abbrev events : List Event
            events = map (event_in base) (split_events bs)

            events_count : length events ≡ length (split_events bs)
            events_count = length-map (split_events bs) (event_in base)

            above : sizes.event_limit < check.events + state.count → T (not (is_within_limit sizes p.seen bs))
            unfolding is_within_limit
            above many =
                let many' : sizes.event_limit < length p.seen + length (split_events bs) =
                omega (arith, kept_events.0, tracks.count_is) in
                rw (lt-leb (length p.seen + length (split_events bs)) sizes.event_limit many') tt

            within : check.events + state.count ≤ sizes.event_limit → T (is_within_limit sizes p.seen bs)
            unfolding is_within_limit
            within few = le→leb _ sizes.event_limit (omega (arith, kept_events.0, tracks.count_is))

            pub refuses_26 : sizes.event_limit < check.events + state.count
                → step sizes base p bs ≡ refused 26 offset
            refuses_26 many =
                at_offset (step_26 sizes base p bs is_framed_holds has_right_crc_holds shown.0 has_right_numbering_holds is_loop
                (above many))

            next : T (is_next (latest p.before) (header_in bs))
            unfolding has_right_numbering
            next = let t = has_right_numbering_holds in search tests

            pub goes_on : check.events + state.count ≤ sizes.event_limit
                → SameVerdict (offset + length bs)
                (Ok (record { before = Some h; least = check.least; count = state.count + check.events }))
                (with_version versions h.table_id h.version) check.words
                (step sizes base p bs)
            goes_on few = (
              behind base p bs,
              step_passes sizes base p bs
                  (record {
                    framed = is_framed_holds;
                    crc_right = has_right_crc_holds;
                    header = shown.0;
                    numbering = has_right_numbering_holds;
                    loop = is_loop;
                    limit = within few;
                  }),
              record {
                offset_is = ap (λ (n : ℕ). n + length bs) tracks.offset_is;
                before_is = ap some (sym shown.1);
                come = tables_come p.before (header_in bs) tracks.come next;
                versions_are =
                    versions_noted p.before (header_in bs) in_range_holds.0 in_range_holds.1
                    ∙ ap₂ (λ (vs : List ℕ) (g : Header). with_version vs g.table_id g.version)
                    tracks.versions_are (sym shown.1);
                kept = kept_events.1;
                count_is = omega (arith, seen_length events p.seen, events_count, kept_events.0, tracks.count_is);
              },
            )
