-- Any file that keeps the rules, whoever made it: its sections in a segment are a packing of the events that start
-- there, in at most eight parts. By the laws of counting. Assumes nothing.
use mathlib.Core.Path.{◌≡◌, refl, sym, ap, ◌∙◌}
use mathlib.Core.Logic.{⊎_elim}
use mathlib.Core.List.{List, [], ◌∷◌}
use Prim.Native.Nat.{ℕ, zero, suc, ◌≤◌}
use native.Mathlib.Omega.{arith}
use lib.ListN.{length, take, length-map}
use Rattle.eit.specs.Sizes.{room}
use Rattle.eit.specs.declared.Sizes.{Sizes}
use Rattle.eit.specs.Events.{Event}
use Rattle.eit.specs.declared.Identity.{Identity}
use Rattle.eit.proofs.Test.{test_or}
use Rattle.packing.specs.Greedy.{joined, held, AllFit, Packing}
use Rattle.packing.proofs.Joined.{joined_flatten}
use Rattle.sections.specs.Section.{Section, events_by_section, section_events, event_size, section_size}
use Rattle.sections.specs.Every.{Every}
use Rattle.sections.specs.Rules.{Rules}
use Rattle.sections.specs.Count.{is_in_first, first_sections, segment_events, segment_sections}
use Rattle.sections.proofs.Every.{every_map}
use Rattle.sections.proofs.Count.{first_more, first_same, segment_holds}
use Rattle.sections.proofs.SegmentOrder.{first_take, segment_eight}
use Rattle.schedule.specs.Given.{EightHold}
use Rattle.schedule.proofs.Parts.{sizes_same}

pub joined_parts : (ss : List Section) → joined (events_by_section ss) ≡ section_events ss
unfolding section_events
joined_parts ss = joined_flatten (events_by_section ss)

take_parts : (k : ℕ) (ss : List Section) → events_by_section (take k ss) ≡ take k (events_by_section ss)
take_parts zero ss = refl
take_parts (suc k) [] = refl
take_parts (suc k) (s ∷ ss) = ap (λ (ps : List (List Event)). s.events ∷ ps) (take_parts k ss)

-- what holds of every section holds of those in a segment
first_every : (P : Section → Type 0) (index k : ℕ) (ss : List Section) → Every P ss → Every P (first_sections index k ss)
first_every P index k [] all = tt
first_every P index k (s ∷ ss) all =
    let rest : Every P (first_sections index k ss) = first_every P index k ss all.1 in
    ⊎_elim (λ inside. rw (first_more index k s ss inside) (all.0, rest))
    (λ outside. rw (first_same index k s ss outside) rest)
    (test_or (is_in_first index k s.header))

parts_fit : (sizes : Sizes) (ss : List Section) → Every (λ (s : Section). section_size s ≤ sizes.section_limit) ss
    → AllFit event_size (room sizes) (events_by_section ss)
parts_fit sizes [] fit = tt
parts_fit sizes (s ∷ ss) fit = (omega (arith, fit.0, sizes_same s.events), parts_fit sizes ss fit.1)

module _ (sizes : Sizes) (identity : Identity) (ss : List Section) (rules : Rules sizes identity ss) (index : ℕ) where
  -- the sections in a segment pack the events that start there
  pub segment_packing : Packing event_size (room sizes) (segment_events index (section_events ss))
      (events_by_section (segment_sections index ss))
  segment_packing =
      record {
        ordered = joined_parts (segment_sections index ss)
            ∙ segment_holds index ss (every_map (λ s r. r.event_rules) ss rules.sections);
        all_fit = parts_fit sizes (segment_sections index ss)
            (first_every _ index 8 ss (every_map (λ s r. r.size) ss rules.sections));
      }

  -- there are at most eight
  pub segment_parts : length (events_by_section (segment_sections index ss)) ≤ 8
  segment_parts =
      omega (
        arith,
        length-map (segment_sections index ss) (λ (s : Section). s.events),
        segment_eight sizes identity ss rules index,
      )

  -- so eight sections hold its events
  pub segment_eight_hold : EightHold sizes (section_events ss) index
  segment_eight_hold = (events_by_section (segment_sections index ss), segment_packing, segment_parts)

  -- the first k sections hold what the first k parts hold
  pub first_held : (k : ℕ) → k ≤ 8
      → length (section_events (first_sections index k ss)) ≡ held k (events_by_section (segment_sections index ss))
  first_held k few =
      ap (λ (ts : List Section). length (section_events ts)) (first_take sizes identity ss rules index k few)
      ∙ ap length (sym (joined_parts (take k (segment_sections index ss))))
      ∙ ap (λ (ps : List (List Event)). length (joined ps)) (take_parts k (segment_sections index ss))
