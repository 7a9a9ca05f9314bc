-- The sections of a segment that is not unpackable hold events that start in it, fit, and are not empty where the
-- segment has events: the laws of greedy packing, said of sections. Assumes nothing.
use mathlib.Core.Path.{◌≡◌, refl, sym, ap, ◌∙◌}
use mathlib.Core.Bool.{not}
use mathlib.Core.Logic.{◌⊎◌, inl, inr}
use mathlib.Core.List.{List, [], ◌∷◌, flatten}
use Prim.Native.Nat.{ℕ, suc, ◌+◌, ◌≤◌, ◌<◌}
use native.Mathlib.Omega.{arith}
use lib.Dec.{T}
use lib.ListN.{length}
use Rattle.eit.specs.Sizes.{section_overhead, room}
use Rattle.eit.specs.declared.Sizes.{Sizes}
use Rattle.eit.specs.Events.{Event}
use Rattle.eit.specs.declared.Identity.{Identity}
use Rattle.packing.specs.Greedy.{NoneEmpty, AllFit, size_of, greedy, unpackable}
use Rattle.packing.proofs.Greedy.{packable, greedy_count, greedy_fits, greedy_nonempty}
use Rattle.packing.proofs.Joined.{joined_flatten}
use Rattle.sections.specs.Segment.{first_section}
use Rattle.sections.specs.Section.{Section, event_size, event_sizes, section_size}
use Rattle.sections.specs.Every.{Every}
use Rattle.sections.specs.Rules.{EventRules}
use Rattle.sections.specs.Count.{segment_events}
use Rattle.sections.proofs.Every.{every_map, every_parts}
use Rattle.sections.proofs.Count.{events_cases}
use Rattle.schedule.specs.SectionsOf.{is_unpackable, packed, packed_segment, header_of, numbered_from}
use Rattle.schedule.specs.SectionsOf.{sections_of_segment}
use Rattle.schedule.proofs.SoundEvents.{EventFacts}
use Rattle.schedule.proofs.Extent.{start_index}

-- ---- events

-- an event that starts in a segment
abbrev StartsIn : ℕ → Event → Type 0
StartsIn index e = EventFacts e × (start_index e ≡ index)

segment_starts : (index : ℕ) (es : List Event) → Every EventFacts es → Every (StartsIn index) (segment_events index es)
segment_starts index [] facts = tt
segment_starts index (e ∷ es) facts =
    let rest : Every (StartsIn index) (segment_events index es) = segment_starts index es facts.1 in
    events_cases index e es (Every (StartsIn index)) (λ here. ((facts.0, here), rest)) (λ elsewhere. rest)

pub every_joined : {A : Type 0} (P : A → Type 0) (ps : List (List A)) → Every P (flatten ps) → Every (Every P) ps
unfolding flatten
every_joined P [] all = tt
every_joined P (p ∷ ps) all =
    let (front, behind) = every_parts P p (flatten ps) all in
    (front, every_joined P ps behind)

-- ---- sizes and numbers

-- one part, without events; or no part without events
abbrev pub OneOrFilled : List (List Event) → Type 0
OneOrFilled ps = (ps ≡ [] ∷ []) ⊎ NoneEmpty ps

pub sizes_same : (es : List Event) → size_of event_size es ≡ event_sizes es
sizes_same [] = refl
sizes_same (e ∷ es) = ap (λ (n : ℕ). event_size e + n) (sizes_same es)

module _ (sizes : Sizes) where
  packed_fits : (es : List Event) → AllFit event_size (room sizes) (packed (room sizes) es)
  unfolding packed
  packed_fits [] = (omega arith, tt)
  packed_fits (e ∷ es) = greedy_fits event_size (room sizes) 8 (e ∷ es)

  packed_nonempty : (es : List Event) → T (not (unpackable event_size (room sizes) 8 es))
      → OneOrFilled (packed (room sizes) es)
  unfolding packed
  packed_nonempty [] fits = inl refl
  packed_nonempty (e ∷ es) fits = inr (greedy_nonempty event_size (room sizes) 8 (e ∷ es) fits)

  -- the parts of events that are not unpackable are these events
  packed_all : (es : List Event) → T (not (unpackable event_size (room sizes) 8 es))
      → flatten (packed (room sizes) es) ≡ es
  unfolding packed flatten
  packed_all [] fits = refl
  packed_all (e ∷ es) fits =
      sym (joined_flatten (greedy event_size (room sizes) 8 (e ∷ es)))
      ∙ (packable event_size (room sizes) 8 (e ∷ es) fits).ordered

  packed_some : (es : List Event) → 0 < length (packed (room sizes) es)
  unfolding packed greedy
  packed_some [] = omega arith
  packed_some (e ∷ es) = omega arith

  packed_few : (es : List Event) → length (packed (room sizes) es) ≤ 8
  unfolding packed
  packed_few [] = omega arith
  packed_few (e ∷ es) = greedy_count event_size (room sizes) 8 (e ∷ es)

-- ---- the sections of a segment

-- a segment has one to eight sections
module _ (sizes : Sizes) (es : List Event) (index : ℕ) where
  pub parts_some : 0 < length (packed_segment sizes es index)
  unfolding packed_segment
  parts_some = packed_some sizes (segment_events index es)

  pub parts_few : length (packed_segment sizes es index) ≤ 8
  unfolding packed_segment
  parts_few = packed_few sizes (segment_events index es)

  -- together they hold the segment's events, if it is not unpackable
  pub parts_events : T (not (is_unpackable sizes es index))
      → flatten (packed_segment sizes es index) ≡ segment_events index es
  unfolding packed_segment is_unpackable
  parts_events fits = packed_all sizes (segment_events index es) fits

  -- there is one, without events, or each has events
  pub parts_filled : T (not (is_unpackable sizes es index)) → OneOrFilled (packed_segment sizes es index)
  unfolding packed_segment is_unpackable
  parts_filled fits = packed_nonempty sizes (segment_events index es) fits

module _ (sizes : Sizes) (identity : Identity) (es : List Event) (index : ℕ) where
  numbered_rules : (S : ℕ) (ps : List (List Event)) → Every (Every (StartsIn index)) ps
      → first_section index ≤ S → S + length ps ≤ first_section index + 8
      → Every (λ (s : Section). Every (EventRules s.header) s.events) (numbered_from sizes identity es index S ps)
  numbered_rules S [] starts least most = tt
  numbered_rules S (p ∷ ps) starts least most =
      let keeps : (e : Event) → StartsIn index e → EventRules (header_of sizes identity es index S) e =
      λ e (facts, here). record {
        id = facts.id;
        start = facts.start;
        duration_low = facts.duration_low;
        duration_high = facts.duration_high;
        bytes = facts.bytes;
        chain = facts.chain;
        table = omega arith;
        segment = omega arith;
      } in
      (every_map keeps p starts.0, numbered_rules (suc S) ps starts.1 (omega arith) (omega arith))

  -- events keep their rules
  pub part_rules : Every EventFacts es → T (not (is_unpackable sizes es index))
      → Every (λ (s : Section). Every (EventRules s.header) s.events) (sections_of_segment sizes identity es index)
  unfolding sections_of_segment
  part_rules facts fits =
      numbered_rules (first_section index) (packed_segment sizes es index)
      (every_joined (StartsIn index) (packed_segment sizes es index)
      (rw (parts_events sizes es index fits) (segment_starts index es facts)))
      (omega arith) (omega (arith, parts_few sizes es index))

  numbered_sizes : section_overhead ≤ sizes.section_limit → (S : ℕ) (ps : List (List Event))
      → AllFit event_size (room sizes) ps
      → Every (λ (s : Section). section_size s ≤ sizes.section_limit) (numbered_from sizes identity es index S ps)
  numbered_sizes roomy S [] fit = tt
  numbered_sizes roomy S (p ∷ ps) fit = (omega (arith, fit.0, sizes_same p), numbered_sizes roomy (suc S) ps fit.1)

  -- and so do sizes
  pub part_sizes : section_overhead ≤ sizes.section_limit
      → Every (λ (s : Section). section_size s ≤ sizes.section_limit) (sections_of_segment sizes identity es index)
  unfolding sections_of_segment packed_segment
  part_sizes roomy =
      numbered_sizes roomy (first_section index) (packed_segment sizes es index)
      (packed_fits sizes (segment_events index es))
