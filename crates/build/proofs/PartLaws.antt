-- A segment's part of Build's file is what the code writes for it: greedy packing takes what fits, as often as there
-- are parts, and the code's header holds the numbers S, G and L of the definition. Assumes nothing.
use mathlib.Core.Path.{◌≡◌, refl, sym, ap, ap₂, ◌∙◌}
use mathlib.Core.List.{List, [], ◌∷◌}
use Prim.Native.Nat.{ℕ, zero, suc, ◌+◌, ◌-◌, ◌/◌}
use lib.ListN.{length, take, drop}
use Rattle.eit.specs.Sizes.{room}
use Rattle.eit.specs.declared.Sizes.{Sizes}
use Rattle.eit.specs.Events.{Event}
use Rattle.eit.specs.declared.Identity.{Identity}
use Rattle.packing.specs.Greedy.{fit, greedy}
use Rattle.sections.specs.Segment.{table_of, first_section}
use Rattle.sections.specs.Section.{Header, version_of, Section, event_size}
use Rattle.sections.specs.Count.{segment_events}
use Rattle.codec_section.specs.HeaderRead.{held_header}
use Rattle.schedule.specs.Extent.{last_table_id_of}
use Rattle.schedule.specs.SectionsOf.{packed, packed_segment, segment_last, table_last, header_of, numbered_from}
use Rattle.schedule.specs.SectionsOf.{sections_of_segment}
use Rattle.schedule.proofs.Numbers.{segment_last_is}
use Rattle.build.specs.Sections.{first_header, sections_from}

-- ---- the header

module _ (sizes : Sizes) (identity : Identity) (es : List Event) (index : ℕ) where
  pub header_is : {sections last lastId : ℕ}
      → sections ≡ length (packed_segment sizes es index)
      → last ≡ table_last sizes es (index / 32)
      → lastId ≡ last_table_id_of es
      → held_header (first_header index sections last lastId identity)
      ≡ header_of sizes identity es index (first_section index)
  header_is {sections} {last} {lastId} counted is_last is-id =
      let held : ℕ → ℕ → ℕ → Header =
      λ G L i.
      record {
        table_id = table_of index;
        section_number = first_section index;
        last_section_number = L;
        segment_last_section_number = G;
        last_table_id = i;
        triplet = identity.triplet;
        version = version_of identity (table_of index);
      } in
      let is_number : first_section index + (sections - 1) ≡ segment_last sizes es index =
      ap (λ (n : ℕ). first_section index + (n - 1)) counted ∙ sym (segment_last_is sizes es index) in
      ap (λ (G : ℕ). held G last lastId) is_number ∙ ap₂ (held (segment_last sizes es index)) is_last is-id

  -- ---- the sections

  greedy_from : (S k : ℕ) (xs : List Event)
      → let parts = greedy event_size (room sizes) k xs in
      numbered_from sizes identity es index S parts
      ≡ sections_from (room sizes) (header_of sizes identity es index S) (length parts) xs
  unfolding greedy sections_from
  greedy_from S zero xs = refl
  greedy_from S (suc k) [] = refl
  greedy_from S (suc k) (x ∷ xs) =
      let n : ℕ = fit event_size (room sizes) (x ∷ xs) in
      let s : Section = record { header = header_of sizes identity es index S; events = take n (x ∷ xs) } in
      ap (λ (ss : List Section). s ∷ ss) (greedy_from (suc S) k (drop n (x ∷ xs)))

  -- a segment without events is one section
  packed_from : (S : ℕ) (xs : List Event)
      → let parts = packed (room sizes) xs in
      numbered_from sizes identity es index S parts
      ≡ sections_from (room sizes) (header_of sizes identity es index S) (length parts) xs
  unfolding packed sections_from
  packed_from S [] = refl
  packed_from S (x ∷ xs) = greedy_from S 8 (x ∷ xs)

  pub segment_is : sections_of_segment sizes identity es index
      ≡ sections_from (room sizes) (header_of sizes identity es index (first_section index))
      (length (packed_segment sizes es index))
      (segment_events index es)
  unfolding sections_of_segment packed_segment
  segment_is = packed_from (first_section index) (segment_events index es)
