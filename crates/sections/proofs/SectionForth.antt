-- Bytes that pass Read's tests are those of the section that they show, and it keeps the rules: header, event loop and
-- the four bytes of CRC_32 each by its own law. Assumes nothing.
use mathlib.Core.Path.{◌≡◌, sym, ap, ◌∙◌}
use Prim.Native.Nat.{ℕ, ◌-◌, ◌≤◌}
use native.Mathlib.Omega.{arith}
use mathlib.Core.List.{List, [], ◌∷◌, ◌++◌, map, flatten, append_assoc}
use lib.Dec.{T, eqb→eq, leb→le}
use lib.ListN.{length, take, drop, length-drop, take-append-drop}
use lib.Seq.{length-take-le}
use Rattle.eit.specs.Sizes.{section_overhead}
use Rattle.eit.specs.declared.Sizes.{Sizes}
use Rattle.eit.specs.Fields.{Bytes, big_endian}
use Rattle.eit.specs.Crc.{crc32}
use Rattle.eit.specs.Events.{Event}
use Rattle.eit.specs.declared.Identity.{Identity}
use Rattle.eit.proofs.Test.{tests}
use Rattle.eit.proofs.Fields.{bytes_append, bytes_take, bytes_drop, field_bytes}
use Rattle.eit.proofs.Crc.{crc_right_only}
use Rattle.sections.specs.Every.{Every}
use Rattle.sections.specs.Segment.{table_first, table_max}
use Rattle.sections.specs.Section.{Header, header_size, section_size}
use Rattle.sections.specs.Encode.{header_bytes, event_loop_bytes, covered_bytes, section_bytes}
use Rattle.sections.specs.Decode.{stated_event_size, event_in, stated_section_size, header_in, event_loop, split_events}
use Rattle.sections.specs.Decode.{section_in}
use Rattle.sections.specs.Rules.{Numbered, Alone, EventRules, SectionRules}
use Rattle.sections.specs.HeaderTests.{is_framed, has_right_crc, has_fixed_bits, is_header, is_numbered}
use Rattle.sections.specs.HeaderTests.{has_right_numbering}
use Rattle.sections.specs.EventTests.{is_filled_or_alone, are_events, is_event_loop}
use Rattle.sections.specs.Walk.{Progress}
use Rattle.sections.proofs.Lengths.{loop_length}
use Rattle.sections.proofs.Split.{split_joined}
use Rattle.sections.proofs.EventLoop.{events_forth}
use Rattle.sections.proofs.HeaderBytes.{HeaderFits, header_fits, header_forth}
use Rattle.sections.proofs.Numbering.{is_numbered_holds, is_alone}
use Rattle.sections.proofs.Walk.{Passes}
use Rattle.sections.proofs.Identity.{HasIdentity}

-- what Read knows of a section that passes: its bytes are those of the section that it shows, which keeps the rules
-- with every identity and last_table_id that its header has
pub record Shown (sizes : Sizes) (base : ℕ) (bs : List ℕ) : Type 0 where
  pub bytes : section_bytes base (section_in base bs) ≡ bs
  pub fits : HeaderFits (header_in bs)
  pub numbered : Numbered (header_in bs)
  pub least : table_first ≤ (header_in bs).table_id
  pub last_table : (header_in bs).last_table_id ≤ table_max
  pub rules : (identity : Identity) (last_table_id : ℕ) → HasIdentity identity last_table_id (header_in bs)
      → SectionRules sizes identity last_table_id (section_in base bs)

alone_forth : (base : ℕ) (h : Header) (xs : List (List ℕ)) → T (is_filled_or_alone h xs) → map (event_in base) xs ≡ []
    → Alone h
alone_forth base h [] t empty = is_alone h t
alone_forth base h (x ∷ xs) t empty = let never : ◌≡◌ {A = ℕ} 0 1 = cc in absurd (omega arith)

loop_joined : (bs : List ℕ) → flatten (split_events bs) ≡ event_loop bs
unfolding split_events
loop_joined bs = split_joined stated_event_size (λ ds. omega arith) (event_loop bs)

-- the four bytes behind the event loop
abbrev closing : List ℕ → List ℕ
closing bs = drop (length bs - section_overhead) (drop header_size bs)

section_joined : (bs : List ℕ) → take header_size bs ++ event_loop bs ++ closing bs ≡ bs
section_joined bs =
    append_assoc (take header_size bs) (event_loop bs) (closing bs)
    ∙ ap (λ (ds : List ℕ). take header_size bs ++ ds)
    (take-append-drop (length bs - section_overhead) (drop header_size bs))
    ∙ take-append-drop header_size bs

module _ (sizes : Sizes) (base : ℕ) (p : Progress) (bs : List ℕ) (bytes : Bytes bs)
    (passes : Passes sizes base p bs) where
  -- 20, part by part
  framed_parts : (length bs ≡ stated_section_size bs) × (section_overhead ≤ length bs)
      × (length bs ≤ sizes.section_limit)
      × (table_first ≤ (header_in bs).table_id)
  unfolding is_framed
  framed_parts =
      let t = passes.framed in
      (eqb→eq _ _ (search tests), leb→le _ _ (search tests), leb→le _ _ (search tests), leb→le _ _ (search tests))

  -- 22
  header_parts : T (has_fixed_bits bs) × ((header_in bs).last_table_id ≤ table_max)
  unfolding is_header
  header_parts = let t = passes.header in (search tests, leb→le _ _ (search tests))

  -- 23
  numbering_parts : T (is_numbered (header_in bs)) × ((header_in bs).table_id ≤ (header_in bs).last_table_id)
  unfolding has_right_numbering
  numbering_parts = let t = passes.numbering in (search tests, leb→le _ _ (search tests))

  -- 24
  loop_parts : T (are_events base (header_in bs) (split_events bs)) × T (is_filled_or_alone (header_in bs) (split_events bs))
  unfolding is_event_loop
  loop_parts = let t = passes.loop in (search tests, search tests)

  enough : 14 ≤ length bs
  enough = omega (arith, framed_parts.1)

  loop_size : length (event_loop bs) ≡ length bs - section_overhead
  loop_size =
      length-take-le (length bs - section_overhead) (drop header_size bs)
      (simp length-drop (omega (arith, framed_parts.1)))

  loop_is_bytes : Bytes (event_loop bs)
  loop_is_bytes = field_bytes bs bytes header_size (length bs - section_overhead)

  loop_forth : (event_loop_bytes base (map (event_in base) (split_events bs)) ≡ event_loop bs)
      × Every (EventRules (header_in bs)) (map (event_in base) (split_events bs))
  loop_forth =
      let joined : flatten (split_events bs) ≡ event_loop bs = loop_joined bs in
      let inside : Bytes (flatten (split_events bs)) = rw joined loop_is_bytes in
      let (same, rules) = events_forth base (header_in bs) (split_events bs) inside loop_parts.0 in
      (same ∙ joined, rules)

  size_forth : section_size (section_in base bs) ≡ length bs
  unfolding section_in
  size_forth =
      let events : List Event = map (event_in base) (split_events bs) in
      omega (arith, loop_length base events, ap length loop_forth.0, loop_size, framed_parts.1)

  covered_forth : covered_bytes base (section_in base bs) ≡ take header_size bs ++ event_loop bs
  unfolding covered_bytes section_in
  covered_forth =
      let stated : section_size (section_in base bs) ≡ stated_section_size bs = size_forth ∙ framed_parts.0 in
      (λ i. header_bytes (stated i) (header_in bs) ++ loop_forth.0 i)
      ∙ ap (λ (ds : List ℕ). ds ++ event_loop bs) (header_forth bs bytes enough header_parts.0)

  bytes_forth : section_bytes base (section_in base bs) ≡ bs
  unfolding section_bytes has_right_crc
  bytes_forth =
      let covered : List ℕ = take header_size bs ++ event_loop bs in
      let four : length (closing bs) ≡ 4 = simp length-drop (omega (arith, framed_parts.1)) in
      let zero : crc32 (covered ++ closing bs) ≡ 0 = rw (section_joined bs) (eqb→eq (crc32 bs) 0 passes.crc_right) in
      let front : Bytes covered =
      bytes_append (take header_size bs) (event_loop bs) (bytes_take header_size bs bytes) loop_is_bytes in
      let end : closing bs ≡ big_endian 4 (crc32 covered) =
      crc_right_only covered (closing bs) front
      (bytes_drop (length bs - section_overhead) (drop header_size bs) (bytes_drop header_size bs bytes)) four zero in
      ap (λ (ds : List ℕ). ds ++ big_endian 4 (crc32 ds)) covered_forth
      ∙ ap (λ (ds : List ℕ). covered ++ ds) (sym end)
      ∙ section_joined bs

  pub section_forth : Shown sizes base bs
  unfolding section_in
  section_forth =
      let fits : HeaderFits (header_in bs) = header_fits bs bytes enough in
      let numbered : Numbered (header_in bs) = is_numbered_holds (header_in bs) numbering_parts.0 in
      record {
        bytes = bytes_forth;
        fits = fits;
        numbered = numbered;
        least = framed_parts.3;
        last_table = header_parts.1;
        rules = λ identity last_table_id has.
            record {
              header_rules =
                  record {
                    same_triplet = has.same_triplet;
                    same_version = has.same_version;
                    same_last_table = has.same_last_table;
                    least = framed_parts.3;
                    most = omega (arith, numbering_parts.1, has.same_last_table);
                    numbered = numbered;
                    byte = fits.last;
                  };
              event_rules = loop_forth.1;
              alone = alone_forth base (header_in bs) (split_events bs) loop_parts.1;
              size = rw size_forth framed_parts.2;
            };
      }
