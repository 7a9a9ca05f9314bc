-- The file written segment by segment: each segment inside the range adds its part, the events behind it are those of
-- later segments, and what is left to write shrinks. Assumes nothing.
use mathlib.Core.Path.{◌≡◌, sym, ap, ap₂, subst, ◌∙◌}
use mathlib.Core.Bool.{not}
use mathlib.Core.List.{List, ◌++◌, flatten}
use Prim.Native.Nat.{ℕ, suc, ◌+◌, ◌-◌, ◌/◌, ◌%◌, ◌≤◌, ◌<◌}
use native.Mathlib.Omega.{arith}
use lib.Dec.{T, T_not}
use lib.ListN.{length, get_or}
use Rattle.eit.specs.Sizes.{room}
use Rattle.eit.specs.declared.Sizes.{Sizes}
use Rattle.eit.specs.Overwrite.{overwrite}
use Rattle.eit.specs.Pools.{Pools}
use Rattle.eit.specs.Events.{Event}
use Rattle.eit.specs.declared.Identity.{Identity}
use Rattle.sections.specs.Segment.{first_section}
use Rattle.sections.specs.Section.{Header, Section, section_sizes}
use Rattle.sections.specs.Encode.{file_bytes}
use Rattle.sections.proofs.RowBytes.{file_none, file_append}
use Rattle.sections.proofs.Lengths.{file_length}
use Rattle.codec.proofs.LeftLaws.{Left, left_all, left_fits, left_more, left_end}
use Rattle.codec_section.specs.HeaderRead.{held_header}
use Rattle.codec_section.specs.declared.header.SectionHeader.{SectionHeader}
use Rattle.build_counts.specs.Between.{events_between, leading}
use Rattle.build_counts.proofs.WalkLaws.{SegmentWalk, held_events, walk_start, walk_past, walk_events, walk_on}
use Rattle.sections.specs.Each.{each}
use Rattle.schedule.specs.Extent.{last_table, last_table_id_of, last_segment, is_inside}
use Rattle.schedule.specs.SectionsOf.{packed_segment, table_last, header_of, sections_of}
use Rattle.sections.proofs.Each.{joined_more, joined_none}
use Rattle.schedule.proofs.Extent.{tables_few, is_inside_holds, inside_is}
use Rattle.schedule.proofs.ByIndex.{inside_part, part_inside, part_outside, file_by_index}
use Rattle.build.specs.Sections.{first_header, sections_from}
use Rattle.build.specs.Writing.{Writable}
use Rattle.build.proofs.PartLaws.{header_is, segment_is}
use Rattle.build.proofs.CountsLaws.{count_parts, counted_inside, counted_outside}

-- the sections of the segments from an index on
abbrev pub sections_after : Sizes → Identity → List Event → ℕ → List Section
sections_after sizes identity es index = flatten (each (inside_part sizes identity es) index (512 - index))

-- the segments before this one are written, and the events from `from` on are those that start in this one or later
pub record FileSoFar (pools : Pools) (numbers : List ℕ) (count : ℕ) (sizes : Sizes) (identity : Identity) (base : ℕ)
    (d out : List ℕ) (last at from index : ℕ)
    : Type 0 where
  pub left :
      let es = held_events pools numbers count in
      Left d 0 (file_bytes base (sections_of sizes identity es)) out at
      (file_bytes base (sections_after sizes identity es index))
  pub walk : SegmentWalk pools numbers count from index
  pub few : index ≤ 512
  -- behind the first segment of a table L is known
  pub known :
      let es = held_events pools numbers count in
      0 < index % 32 → T (is_inside es index) → last ≡ table_last sizes es (index / 32)

-- the same values under other names
pub file_same : {pools : Pools} {numbers : List ℕ} {count : ℕ} {sizes : Sizes} {identity : Identity} {base : ℕ}
    {d out out' : List ℕ} {last last' at at' from from' index : ℕ}
    → out' ≡ out → last' ≡ last → at' ≡ at → from' ≡ from
    → FileSoFar pools numbers count sizes identity base d out last at from index
    → FileSoFar pools numbers count sizes identity base d out' last' at' from' index
file_same {pools} {numbers} {count} {sizes} {identity} {base} {d} {out} {out'} {last} {last'} {at} {at'} {from} {from'}
    {index}
    o l a f so_far =
    let So : List ℕ → ℕ → ℕ → ℕ → Type 0 =
    λ bs k m n. FileSoFar pools numbers count sizes identity base d bs k m n index in
    subst (So out' last' at') (sym f)
    (subst (λ (m : ℕ). So out' last' m from) (sym a)
    (subst (λ (k : ℕ). So out' k at from) (sym l) (subst (λ (bs : List ℕ). So bs last at from) (sym o) so_far)))

module _ (pools : Pools) (numbers : List ℕ) (count : ℕ) {sizes : Sizes} {identity : Identity} {counts d : List ℕ}
    (ready : Writable sizes identity (held_events pools numbers count) counts d)
  where
    abbrev es : List Event
    es = held_events pools numbers count

    -- last_table_id is at most 0x5F
    pub table_small : last_table es < 16
    table_small = tables_few es ready.starts

    pub file_start : (base last : ℕ) → FileSoFar pools numbers count sizes identity base d d last 0 0 0
    file_start base last =
        let all : List Section = sections_of sizes identity es in
        record {
          left =
              subst (Left d 0 (file_bytes base all) d 0)
              (ap (file_bytes base) (file_by_index sizes identity es ready.starts))
              (left_all d 0 (file_bytes base all) (omega (arith, ready.fits, file_length base all)));
          walk = walk_start pools numbers count;
          few = omega arith;
          known = λ later. absurd (omega arith);
        }

    module _ {base : ℕ} {out : List ℕ} {last at from index : ℕ}
        (so_far : FileSoFar pools numbers count sizes identity base d out last at from index)
      where
        pub file_end : 512 ≤ index → out ≡ overwrite d 0 (file_bytes base (sections_of sizes identity es))
        file_end ended =
            let parts : ℕ → List Section = inside_part sizes identity es in
            let none : 512 - index ≡ 0 = omega arith in
            (left_end so_far.left
            (ap (file_bytes base)
            (ap (λ (n : ℕ). flatten (each parts index n)) none
            ∙ joined_none parts index 0 (λ k low high. absurd (omega arith)))
            ∙ file_none base)).0

        module _ (few : index < 512) where
          abbrev behind : List Section
          behind = sections_after sizes identity es (index + 1)

          -- the segment's part, and those behind it
          next_part : sections_after sizes identity es index ≡ inside_part sizes identity es index ++ behind
          next_part =
              let parts : ℕ → List Section = inside_part sizes identity es in
              let n : ℕ = 512 - (index + 1) in
              let one : 512 - index ≡ suc n = omega arith in
              let next : suc index ≡ index + 1 = omega arith in
              ap (λ (k : ℕ). flatten (each parts index k)) one
              ∙ joined_more parts index n
              ∙ ap (λ (k : ℕ). parts index ++ flatten (each parts k n)) next

          -- ---- a segment outside the range has no part, and no later one of its table has

          pub file_skip : get_or counts index 0 ≤ 0
              → FileSoFar pools numbers count sizes identity base d out last at from (index + 1)
          file_skip none =
              let outside : T (not (is_inside es index)) = counted_outside ready index few none in
              record {
                left =
                    subst (Left d 0 (file_bytes base (sections_of sizes identity es)) out at)
                    (ap (file_bytes base)
                    (next_part
                    ∙ ap (λ (ss : List Section). ss ++ behind) (part_outside sizes identity es index outside)))
                    so_far.left;
                walk = walk_past pools numbers count ready.rises so_far.walk outside;
                few = omega arith;
                known =
                    λ later inside.
                    let same : (index + 1) / 32 ≡ index / 32 = omega arith in
                    let (table, segment) = inside_is es (index + 1) inside in
                    let within : index + 1 ≤ last_segment es (index / 32) = rw same at segment in
                    absurd (T_not (is_inside es index) outside (is_inside_holds es index (omega arith) (omega arith)));
              }

          -- ---- a segment inside the range

          module _ (some : 0 < get_or counts index 0) where
            inside_range : T (is_inside es index)
            inside_range = counted_inside ready index few some

            -- a later one of its table
            pub last_later : (index % 32 ≡ 0 → ⊥) → last ≡ table_last sizes es (index / 32)
            last_later later = so_far.known (omega arith) inside_range

            -- its events stand in the list from `from` to `end`
            module _ {end : ℕ} (ends : end ≡ from + leading index (events_between pools numbers from count)) where
              -- the sections that are written are its part
              module _ {bytes last' lastId : ℕ} {header : SectionHeader} (is-room : bytes ≡ room sizes)
                  (is_last : last' ≡ table_last sizes es (index / 32)) (is-id : lastId ≡ last_table_id_of es)
                  (is-header : header ≡ first_header index (get_or counts index 0) last' lastId identity)
                where
                  abbrev sections : List Section
                  sections =
                      let n = get_or counts index 0 in
                      sections_from bytes (held_header header) n (events_between pools numbers from end)

                  written_is : sections ≡ inside_part sizes identity es index
                  written_is =
                      let n : ℕ = get_or counts index 0 in
                      let parts : n ≡ length (packed_segment sizes es index) =
                      count_parts ready index few inside_range in
                      let held : Header = header_of sizes identity es index (first_section index) in
                      ap₂ (λ (r : ℕ) (h : Header). sections_from r h n (events_between pools numbers from end)) is-room
                      (ap held_header is-header ∙ header_is sizes identity es index parts is_last is-id)
                      ∙ ap₂ (sections_from (room sizes) held) parts
                      (walk_events pools numbers count ready.rises so_far.walk end ends)
                      ∙ sym (segment_is sizes identity es index)
                      ∙ sym (part_inside sizes identity es index inside_range)

                  bytes_are : file_bytes base (sections_after sizes identity es index)
                      ≡ file_bytes base sections ++ file_bytes base behind
                  bytes_are =
                      ap (file_bytes base) (next_part ∙ ap (λ (ss : List Section). ss ++ behind) (sym written_is))
                      ∙ file_append base sections behind

                  pub part_fits : at + section_sizes sections ≤ length out
                  part_fits =
                      omega (
                        arith,
                        left_fits so_far.left (file_bytes base sections) (file_bytes base behind) bytes_are,
                        file_length base sections,
                      )

                  pub file_more : {out' : List ℕ} {at' : ℕ}
                      → out' ≡ overwrite out at (file_bytes base sections)
                      → at' ≡ at + section_sizes sections
                      → FileSoFar pools numbers count sizes identity base d out' last' at' end (index + 1)
                  file_more written seam =
                      record {
                        left =
                            left_more so_far.left (file_bytes base sections) (file_bytes base behind) bytes_are written
                            (omega (arith, seam, file_length base sections));
                        walk = walk_on pools numbers count ready.rises so_far.walk end ends;
                        few = omega arith;
                        known =
                            λ later inside.
                            let same : index / 32 ≡ (index + 1) / 32 = omega arith in
                            is_last ∙ ap (table_last sizes es) same;
                      }
