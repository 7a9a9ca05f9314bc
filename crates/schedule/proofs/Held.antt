-- The sections of Build's file hold the list's events, all and in their order, if no segment is unpackable: each
-- segment's sections hold its events, and these, one segment after the other, are the list (EventsFrom).
-- Assumes nothing.
use mathlib.Core.Path.{◌≡◌, refl, sym, ap, ◌∙◌}
use mathlib.Core.Bool.{not}
use mathlib.Core.List.{List, [], ◌∷◌, ◌++◌, flatten, append_assoc}
use Prim.Native.Nat.{ℕ, suc, ◌-◌, ◌*◌}
use lib.Dec.{T}
use Rattle.eit.specs.declared.Sizes.{Sizes}
use Rattle.eit.specs.Events.{Event, rising}
use Rattle.eit.specs.declared.Identity.{Identity}
use Rattle.sections.specs.Segment.{first_section}
use Rattle.sections.specs.Section.{Section, section_events}
use Rattle.sections.specs.Count.{segment_events}
use Rattle.sections.specs.Each.{each}
use Rattle.schedule.specs.Extent.{table_segments, last_table, last_segment}
use Rattle.schedule.specs.SectionsOf.{is_unpackable, packed_segment, numbered_from, sections_of_segment}
use Rattle.schedule.specs.SectionsOf.{sections_of_table, sections_of}
use Rattle.sections.proofs.Each.{each_same, joined_map}
use Rattle.schedule.proofs.EventsFrom.{segment_held, table_held, all_held}
use Rattle.schedule.proofs.Parts.{parts_events}

no_events : section_events [] ≡ []
unfolding section_events flatten
no_events = refl

held_append : (ss ts : List Section) → section_events (ss ++ ts) ≡ section_events ss ++ section_events ts
unfolding section_events
held_append [] ts = refl
held_append (s ∷ ss) ts =
    ap (λ (es : List Event). s.events ++ es) (held_append ss ts)
    ∙ sym (append_assoc s.events (section_events ss) (section_events ts))

module _ (sizes : Sizes) (identity : Identity) (es : List Event) where
  -- the sections of a table and of the file
  pub table_is : (table : ℕ) → sections_of_table sizes identity es table
      ≡ flatten (each (sections_of_segment sizes identity es) (table * table_segments)
      (suc (last_segment es table - table * table_segments)))
  unfolding sections_of_table
  table_is table = refl

  pub file_is : sections_of sizes identity es ≡ flatten (each (sections_of_table sizes identity es) 0 (suc (last_table es)))
  unfolding sections_of
  file_is = refl

  numbered_events : (index S : ℕ) (ps : List (List Event))
      → section_events (numbered_from sizes identity es index S ps) ≡ flatten ps
  unfolding section_events flatten
  numbered_events index S [] = refl
  numbered_events index S (p ∷ ps) = ap (λ (fs : List Event). p ++ fs) (numbered_events index (suc S) ps)

  -- the sections of a segment that is not unpackable hold its events
  part_events : (index : ℕ) → T (not (is_unpackable sizes es index))
      → section_events (sections_of_segment sizes identity es index) ≡ segment_events index es
  unfolding sections_of_segment
  part_events index fits =
      numbered_events index (first_section index) (packed_segment sizes es index) ∙ parts_events sizes es index fits

  -- the sections of the file hold the list's events
  pub sections_events : T (rising es) → ((index : ℕ) → T (not (is_unpackable sizes es index)))
      → section_events (sections_of sizes identity es) ≡ es
  sections_events rises fits =
      let held : (table : ℕ) → section_events (sections_of_table sizes identity es table) ≡ table_held es rises table =
      λ table.
      let first : ℕ = table * table_segments in
      let n : ℕ = suc (last_segment es table - first) in
      ap section_events (table_is table)
      ∙ joined_map section_events no_events held_append (sections_of_segment sizes identity es) first n
      ∙ ap flatten (each_same _ (segment_held es rises) first n (λ index. part_events index (fits index))) in
      ap section_events file_is
      ∙ joined_map section_events no_events held_append (sections_of_table sizes identity es) 0 (suc (last_table es))
      ∙ ap flatten (each_same _ (table_held es rises) 0 (suc (last_table es)) held)
      ∙ all_held es rises
