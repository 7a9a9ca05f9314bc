-- The headers of Build's sections keep the rules of numbering, whatever the events are: a segment's numbers are s0 to
-- G, at most s0 + 7, and in a table the next segment's s0 is eight more. By induction over parts, segments and tables.
-- Assumes nothing.
use mathlib.Core.Path.{◌≡◌, refl, sym, ap, subst, ◌∙◌}
use mathlib.Core.Logic.{◌⊎◌, inl, inr, ⊎_elim}
use mathlib.Core.List.{List, [], ◌∷◌}
use Prim.Native.Nat.{ℕ, suc, ◌+◌, ◌-◌, ◌*◌, ◌/◌, ◌≤◌, ◌<◌}
use native.Mathlib.Omega.{arith}
use lib.ListN.{length}
use Rattle.eit.specs.declared.Sizes.{Sizes}
use Rattle.eit.specs.Events.{Event}
use Rattle.eit.specs.declared.Identity.{Identity}
use Rattle.eit.proofs.Test.{le_or_lt}
use Rattle.packing.specs.Greedy.{NoneEmpty}
use Rattle.sections.specs.Segment.{first_section, first_of}
use Rattle.sections.specs.Section.{Header, Section, headers_of}
use Rattle.sections.specs.Every.{Every}
use Rattle.sections.specs.Rules.{HeaderRules, Alone, Next, Ordered}
use Rattle.schedule.specs.Extent.{last_table, last_table_id_of, last_segment}
use Rattle.schedule.specs.SectionsOf.{packed_segment, segment_last, table_last, header_of, numbered_from}
use Rattle.schedule.specs.SectionsOf.{sections_of_segment, sections_of_table}
use Rattle.schedule.specs.SectionsOf.{sections_of}
use Rattle.sections.proofs.Each.{joined_every}
use Rattle.schedule.proofs.Extent.{segment_in_table}
use Rattle.schedule.proofs.Parts.{OneOrFilled, parts_some, parts_few}
use Rattle.schedule.proofs.Linked.{Linked, one, more, linked_ordered, row_linked}

-- ---- G and L

module _ (sizes : Sizes) (es : List Event) where
  pub segment_last_is : (index : ℕ)
      → segment_last sizes es index ≡ first_section index + (length (packed_segment sizes es index) - 1)
  unfolding segment_last
  segment_last_is index = refl

  pub table_last_is : (table : ℕ) → table_last sizes es table ≡ segment_last sizes es (last_segment es table)
  unfolding table_last
  table_last_is table = refl

module _ (sizes : Sizes) (identity : Identity) (es : List Event) where
  -- s0 ≤ G ≤ s0 + 7
  segment_last_least : (index : ℕ) → first_section index ≤ segment_last sizes es index
  segment_last_least index = omega (arith, segment_last_is sizes es index)

  segment_last_most : (index : ℕ) → segment_last sizes es index ≤ first_section index + 7
  segment_last_most index = omega (arith, segment_last_is sizes es index, parts_few sizes es index)

  -- L has a byte
  table_last_byte : (table : ℕ) → table_last sizes es table < 256
  table_last_byte table = omega (arith, table_last_is sizes es table, segment_last_most (last_segment es table))

  -- a segment behind which its table has another: s0 + 8 ≤ L
  table_last_later : (index : ℕ) → index < last_segment es (index / 32)
      → first_section index + 8 ≤ table_last sizes es (index / 32)
  table_last_later index before =
      let l : ℕ = last_segment es (index / 32) in
      let same : l / 32 ≡ index / 32 = segment_in_table es (index / 32) in
      omega (arith, table_last_is sizes es (index / 32), segment_last_least l)

  -- its table's last segment: G = L
  table_last_here : (index : ℕ) → index ≡ last_segment es (index / 32)
      → segment_last sizes es index ≡ table_last sizes es (index / 32)
  table_last_here index here = ap (segment_last sizes es) here ∙ sym (table_last_is sizes es (index / 32))

  -- so G = L or L ≥ s0 + 8, and G ≤ L
  segment_whole : (index : ℕ) → index ≤ last_segment es (index / 32)
      → (segment_last sizes es index ≡ table_last sizes es (index / 32))
      ⊎ (first_section index + 8 ≤ table_last sizes es (index / 32))
  segment_whole index inside =
      ⊎_elim (λ here. inl (table_last_here index (omega arith))) (λ before. inr (table_last_later index before))
      (le_or_lt (last_segment es (index / 32)) index)

  segment_table : (index : ℕ) → index ≤ last_segment es (index / 32)
      → segment_last sizes es index ≤ table_last sizes es (index / 32)
  segment_table index inside =
      ⊎_elim (λ here. omega arith) (λ later. omega (arith, segment_last_most index)) (segment_whole index inside)

  -- ---- every section

  -- what holds of every section of every segment inside the range holds of every section of the file
  pub sections_every : (P : Section → Type 0)
      → ((index : ℕ) → index / 32 ≤ last_table es → index ≤ last_segment es (index / 32)
      → Every P (sections_of_segment sizes identity es index))
      → Every P (sections_of sizes identity es)
  unfolding sections_of
  sections_every P all =
      joined_every P (sections_of_table sizes identity es) 0 (suc (last_table es))
      (λ table low high. table_every table (omega arith))
    where
      table_every : (table : ℕ) → table ≤ last_table es → Every P (sections_of_table sizes identity es table)
      table_every table few =
          let l : ℕ = last_segment es table in
          let last : l / 32 ≡ table = segment_in_table es table in
          joined_every P (sections_of_segment sizes identity es) (table * 32) (suc (l - table * 32))
          (λ index low high.
          let here : index / 32 ≡ table = omega arith in
          all index (omega arith) (rw here (omega arith)))

  -- the section of a segment that has a number and some events
  abbrev section_at : ℕ → ℕ → List Event → Section
  section_at index S p = record { header = header_of sizes identity es index S; events = p }

  -- what holds of a segment's sections with these numbers
  numbered_every : (P : Section → Type 0) (index S : ℕ) (ps : List (List Event))
      → ((k : ℕ) (p : List Event) → S ≤ k → k < S + length ps → P (section_at index k p))
      → Every P (numbered_from sizes identity es index S ps)
  numbered_every P index S [] all = tt
  numbered_every P index S (p ∷ ps) all = (
    all S p (omega arith) (omega arith),
    numbered_every P index (suc S) ps (λ k q low high. all k q (omega arith) (omega arith)),
  )

  -- s0 from the number of any section of the segment
  first_is : (index S : ℕ) → first_section index ≤ S → S ≤ segment_last sizes es index → first_of S ≡ first_section index
  first_is index S least most = omega (arith, segment_last_most index)

  -- the header of one section
  header_keeps : (index S : ℕ) → index / 32 ≤ last_table es → index ≤ last_segment es (index / 32)
      → first_section index ≤ S → S ≤ segment_last sizes es index
      → HeaderRules identity (last_table_id_of es) (header_of sizes identity es index S)
  header_keeps index S table inside least most =
      let s0 : first_of S ≡ first_section index = first_is index S least most in
      record {
        same_triplet = refl;
        same_version = refl;
        same_last_table = refl;
        least = omega arith;
        most = omega arith;
        numbered =
            record {
              first = omega arith;
              segment = most;
              table = segment_table index inside;
              eight = omega (arith, segment_last_most index);
              whole = rw s0 (segment_whole index inside);
            };
        byte = table_last_byte (index / 32);
      }

  -- numbers and table of every section are in their ranges
  pub headers_keep : Every (λ (s : Section). HeaderRules identity (last_table_id_of es) s.header)
      (sections_of sizes identity es)
  unfolding sections_of_segment
  headers_keep =
      let Keeps : Section → Type 0 = λ (s : Section). HeaderRules identity (last_table_id_of es) s.header in
      sections_every Keeps
      (λ index table inside.
      numbered_every Keeps index (first_section index) (packed_segment sizes es index)
      (λ S p least most. header_keeps index S table inside least (omega (arith, segment_last_is sizes es index))))

  -- no section has no events
  none_empty : (index S : ℕ) (ps : List (List Event)) → NoneEmpty ps
      → Every (λ (s : Section). s.events ≡ [] → Alone s.header) (numbered_from sizes identity es index S ps)
  none_empty index S [] full = tt
  none_empty index S (p ∷ ps) full = (
    λ empty. absurd (omega (arith, full.0, ap (λ (q : List Event). length q) empty)),
    none_empty index (suc S) ps full.1,
  )

  -- one section alone
  one_alone : (index : ℕ) → length (packed_segment sizes es index) ≡ 1
      → Alone (header_of sizes identity es index (first_section index))
  one_alone index single = record { number = omega arith; last = omega (arith, segment_last_is sizes es index) }

  -- a section without events is alone in its segment
  pub empty_alone : ((index : ℕ) → OneOrFilled (packed_segment sizes es index))
      → Every (λ (s : Section). s.events ≡ [] → Alone s.header) (sections_of sizes identity es)
  unfolding sections_of_segment
  empty_alone parts =
      sections_every (λ (s : Section). s.events ≡ [] → Alone s.header)
      (λ index table inside.
      ⊎_elim
      (λ single. rw single (λ empty. one_alone index (ap (λ (ps : List (List Event)). length ps) single), tt))
      (λ full. none_empty index (first_section index) (packed_segment sizes es index) full)
      (parts index))

  -- ---- order

  -- the first and the last header of a segment
  abbrev first_header : ℕ → Header
  first_header index = header_of sizes identity es index (first_section index)

  abbrev last_header : ℕ → Header
  last_header index = header_of sizes identity es index (segment_last sizes es index)

  -- in a segment
  next_section_holds : (index S : ℕ) → index ≤ last_segment es (index / 32) → S < segment_last sizes es index
      → Next (header_of sizes identity es index S) (header_of sizes identity es index (suc S))
  next_section_holds index S inside before =
      record {
        segment = λ here. (record { table = refl; last = refl }, omega arith, refl);
        table = λ ends table. absurd (omega arith);
        tables = λ ends. absurd (omega (arith, segment_table index inside));
      }

  -- from a segment to the next in its table
  next_segment : (index : ℕ) → index < last_segment es (index / 32) → suc index / 32 ≡ index / 32
      → Next (last_header index) (first_header (suc index))
  next_segment index inside same =
      let s0 : first_of (segment_last sizes es index) ≡ first_section index =
      first_is index (segment_last sizes es index) (segment_last_least index) (omega arith) in
      record {
        segment = λ here. absurd (omega arith);
        table = λ ends table. (record { table = omega arith; last = ap (table_last sizes es) same }, omega arith);
        tables = λ ends. absurd (omega (arith, table_last_later index inside, segment_last_most index));
      }

  -- a table's last section has the number L
  table_ends : (table : ℕ)
      → segment_last sizes es (last_segment es table) ≡ table_last sizes es (last_segment es table / 32)
  table_ends table = sym (table_last_is sizes es table) ∙ ap (table_last sizes es) (sym (segment_in_table es table))

  -- from a table to the next
  next_table_holds : (table : ℕ) → Next (last_header (last_segment es table)) (first_header (suc table * 32))
  next_table_holds table =
      record {
        segment = λ here. absurd (omega arith);
        table = λ ends inside. absurd (omega (arith, table_ends table));
        tables = λ ends. (omega (arith, segment_in_table es table), omega arith);
      }

  -- the sections of a segment from one on, of a segment, of a table
  parts_linked : (index S : ℕ) (ps : List (List Event)) → index ≤ last_segment es (index / 32) → 0 < length ps
      → S + length ps ≡ suc (segment_last sizes es index)
      → Linked (header_of sizes identity es index S) (last_header index)
      (headers_of (numbered_from sizes identity es index S ps))
  parts_linked index S [] inside some ends = absurd (omega arith)
  parts_linked index S (p ∷ []) inside some ends =
      let here : Header = header_of sizes identity es index S in
      let end : S ≡ segment_last sizes es index = omega arith in
      subst (λ (n : ℕ). Linked here (header_of sizes identity es index n) (here ∷ [])) end one
  parts_linked index S (p ∷ q ∷ ps) inside some ends =
      more (next_section_holds index S inside (omega arith))
      (parts_linked index (suc S) (q ∷ ps) inside (omega arith) (omega arith))

  segment_linked : (index : ℕ) → index ≤ last_segment es (index / 32)
      → Linked (first_header index) (last_header index) (headers_of (sections_of_segment sizes identity es index))
  unfolding sections_of_segment
  segment_linked index inside =
      parts_linked index (first_section index) (packed_segment sizes es index) inside (parts_some sizes es index)
      (omega (arith, segment_last_is sizes es index, parts_some sizes es index))

  table_linked : (table : ℕ)
      → Linked (first_header (table * 32)) (last_header (last_segment es table))
      (headers_of (sections_of_table sizes identity es table))
  unfolding sections_of_table
  table_linked table =
      let l : ℕ = last_segment es table in
      let last : l / 32 ≡ table = segment_in_table es table in
      let end : table * 32 + (l - table * 32) ≡ l = omega arith in
      subst
      (λ (n : ℕ). Linked (first_header (table * 32)) (last_header n)
      (headers_of (sections_of_table sizes identity es table)))
      end
      (row_linked (sections_of_segment sizes identity es) first_header last_header (table * 32) (l - table * 32)
      (λ index low high.
      let here : index / 32 ≡ table = omega arith in
      segment_linked index (rw here (omega arith)))
      (λ index low high.
      let here : index / 32 ≡ table = omega arith in
      next_segment index (rw here (omega arith)) (omega arith)))

  -- the sections stand in the order of the rules, the last at the end of last_table_id
  pub headers_ordered : Ordered (headers_of (sections_of sizes identity es))
  unfolding sections_of
  headers_ordered =
      linked_ordered
      (row_linked (sections_of_table sizes identity es) (λ (table : ℕ). first_header (table * 32))
      (λ (table : ℕ). last_header (last_segment es table)) 0 (last_table es) (λ table low high. table_linked table)
      (λ table low high. next_table_holds table))
      (record { table = refl; section = refl })
      (record {
        section = table_ends (0 + last_table es);
        table = omega (arith, segment_in_table es (0 + last_table es));
      })
