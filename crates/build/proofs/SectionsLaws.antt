-- The sections of a segment, written one after the other: each takes what fits of the events that are left.
-- Assumes nothing.
use mathlib.Core.Path.{◌≡◌, refl, sym, ap, ap₂, subst, ◌∙◌}
use mathlib.Core.List.{List, [], ◌∷◌, ◌++◌}
use Prim.Native.Nat.{ℕ, suc, ◌+◌, ◌-◌, ◌≤◌, ◌<◌}
use native.Mathlib.Omega.{arith}
use lib.ListN.{length, take, drop}
use Rattle.eit.specs.Sizes.{section_overhead}
use Rattle.eit.specs.Overwrite.{overwrite}
use Rattle.eit.specs.Pools.{Pools}
use Rattle.eit.specs.Events.{Event}
use Rattle.packing.specs.Greedy.{fit}
use Rattle.packing.proofs.Greedy.{fit_length}
use Rattle.sections.specs.Section.{Header, Section, event_size, event_sizes, section_sizes}
use Rattle.sections.specs.Encode.{section_bytes, file_bytes}
use Rattle.sections.proofs.RowBytes.{file_none, file_cons}
use Rattle.sections.proofs.Lengths.{section_length, file_length}
use Rattle.codec.proofs.LeftLaws.{Left, left_all, left_fits, left_more, left_end}
use Rattle.codec_section.specs.HeaderRead.{held_header}
use Rattle.codec_section.specs.declared.header.SectionHeader.{SectionHeader}
use Rattle.build_counts.specs.Between.{events_between}
use Rattle.build_counts.specs.Cutting.{cut_of}
use Rattle.build_counts.specs.declared.cut.Cut.{Cut}
use Rattle.build_counts.proofs.BetweenLaws.{between_drop, between_front}
use Rattle.build.specs.Sections.{section_of, section_size_of, next_header, sections_from}

module _ (room : ℕ) (h : Header) where
  no_sections : (es : List Event) → sections_from room h 0 es ≡ []
  unfolding sections_from
  no_sections es = refl

  first_section_holds : (n : ℕ) (es : List Event)
      → let k = fit event_size room es in
      sections_from room h (suc n) es
      ≡ record { header = h; events = take k es } ∷ sections_from room (next_header h) n (drop k es)
  unfolding sections_from
  first_section_holds n es = refl

-- a header with another section_number
abbrev pub numbered : SectionHeader → ℕ → SectionHeader
numbered h n =
    record {
      table_id = h.table_id;
      section_number = n;
      last_section_number = h.last_section_number;
      segment_last_section_number = h.segment_last_section_number;
      last_table_id = h.last_table_id;
      triplet = h.triplet;
      version = h.version;
    }

module _ (pools : Pools) (numbers : List ℕ) (room : ℕ) (first : SectionHeader) (sections end : ℕ) where
  -- the sections of the segment, whose events stand from `from` on
  abbrev pub all_sections : ℕ → List Section
  all_sections from = sections_from room (held_header first) sections (events_between pools numbers from end)

  -- those behind the first k, with the events from `next` on
  abbrev pub sections_behind : ℕ → ℕ → List Section
  sections_behind k next =
      sections_from room (held_header (numbered first (first.section_number + k))) (sections - k)
      (events_between pools numbers next end)

  -- k sections are written
  pub record SegmentSoFar (base : ℕ) (d : List ℕ) (at from : ℕ) (out : List ℕ) (offset next k : ℕ) : Type 0 where
    pub left : Left d at (file_bytes base (all_sections from)) out offset (file_bytes base (sections_behind k next))
    pub few : k ≤ sections

pub segment_start : {pools : Pools} {numbers : List ℕ} {room : ℕ} {first : SectionHeader} {sections end base : ℕ}
    {d : List ℕ} {at from : ℕ}
    → at + section_sizes (all_sections pools numbers room first sections end from) ≤ length d
    → SegmentSoFar pools numbers room first sections end base d at from d at from 0
segment_start {pools} {numbers} {room} {first} {sections} {end} {base} {d} {at} {from} fits =
    let sections-all : List Section = all_sections pools numbers room first sections end from in
    let all : List ℕ = file_bytes base sections-all in
    let zeroth : first.section_number ≡ first.section_number + 0 = omega arith in
    let every : sections ≡ sections - 0 = omega arith in
    record {
      left =
          subst (Left d at all d at)
          (ap₂ (λ (n m : ℕ). file_bytes base
          (sections_from room (held_header (numbered first n)) m (events_between pools numbers from end)))
          zeroth every)
          (left_all d at all (omega (arith, file_length base sections-all)));
      few = omega arith;
    }

module _ {pools : Pools} {numbers : List ℕ} {room : ℕ} {first : SectionHeader} {sections end base : ℕ} {d : List ℕ}
    {at from : ℕ} {out : List ℕ} {offset next k : ℕ}
    (so_far : SegmentSoFar pools numbers room first sections end base d at from out offset next k)
  where
    abbrev all : List Section
    all = all_sections pools numbers room first sections end from

    abbrev rest : ℕ → ℕ → List Section
    rest = sections_behind pools numbers room first sections end

    pub segment_end : sections ≤ k
        → (out ≡ overwrite d at (file_bytes base all)) × (offset ≡ at + section_sizes all)
    segment_end ended =
        let h : Header = held_header (numbered first (first.section_number + k)) in
        let es : List Event = events_between pools numbers next end in
        let none : sections - k ≡ 0 = omega arith in
        let (written, ends) =
        left_end so_far.left
        (ap (λ (n : ℕ). file_bytes base (sections_from room h n es)) none ∙ ap (file_bytes base) (no_sections room h es)
        ∙ file_none base) in
        (written, omega (arith, ends, file_length base all))

    -- the next section takes as many of the next events as fit
    module _ (more : k < sections) (taken : Cut)
        (cut : taken ≡ cut_of next room (events_between pools numbers next end))
      where
        abbrev number : ℕ
        number = first.section_number + k

        abbrev next_section : Section
        next_section = section_of (numbered first number) (events_between pools numbers next taken.to)

        next_events : let es = events_between pools numbers next end in
            events_between pools numbers next taken.to ≡ take (fit event_size room es) es
        next_events =
            let es : List Event = events_between pools numbers next end in
            ap (λ (c : Cut). events_between pools numbers next c.to) cut
            ∙ between_front pools numbers next end (fit event_size room es) (fit_length event_size room es)

        pub segment_size : section_overhead + taken.bytes
            ≡ section_size_of (events_between pools numbers next taken.to)
        segment_size =
            ap (λ (c : Cut). section_overhead + c.bytes) cut
            ∙ ap (λ (es : List Event). section_overhead + event_sizes es) (sym next_events)

        -- its bytes, and those of the sections behind it
        abbrev section_now : List ℕ
        section_now = section_bytes base next_section

        abbrev behind : List ℕ
        behind = file_bytes base (rest (k + 1) taken.to)

        next_size : section_overhead + taken.bytes ≡ length section_now
        next_size = segment_size ∙ sym (section_length base next_section)

        parts : file_bytes base (rest k next) ≡ section_now ++ behind
        parts =
            let h : Header = held_header (numbered first number) in
            let es : List Event = events_between pools numbers next end in
            let n : ℕ = fit event_size room es in
            let others : ℕ = sections - (k + 1) in
            let later : Header → List Event → List Section = λ g fs. sections_from room g others fs in
            let one : sections - k ≡ suc others = omega arith in
            let after : suc number ≡ first.section_number + (k + 1) = omega arith in
            let after-them : drop n es ≡ events_between pools numbers taken.to end =
            between_drop pools numbers next end n
            ∙ ap (λ (c : Cut). events_between pools numbers c.to end) (sym cut) in
            ap (file_bytes base)
            (ap (λ (m : ℕ). sections_from room h m es) one
            ∙ first_section_holds room h others es
            ∙ ap (λ (fs : List Event). section_of (numbered first number) fs ∷ later (next_header h) (drop n es))
            (sym next_events)
            ∙ ap₂ (λ (m : ℕ) (fs : List Event). next_section ∷ later (held_header (numbered first m))
            fs)
            after after-them)
            ∙ file_cons base next_section (rest (k + 1) taken.to)

        pub segment_fits : offset + (section_overhead + taken.bytes) ≤ length out
        segment_fits = omega (arith, left_fits so_far.left section_now behind parts, next_size)

        pub segment_more : {out' : List ℕ} → out' ≡ overwrite out offset (section_bytes base next_section)
            → SegmentSoFar pools numbers room first sections end base d at from out'
            (offset + (section_overhead + taken.bytes)) taken.to (k + 1)
        segment_more written =
            record {
              left = left_more so_far.left section_now behind parts written (ap (λ (n : ℕ). offset + n) next_size);
              few = omega arith;
            }
