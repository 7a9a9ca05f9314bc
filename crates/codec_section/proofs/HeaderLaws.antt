-- The two parts of a header's bytes are its bytes, and each is one write of its fields; the fields that are read are
-- the header that the bytes show. Assumes nothing.
use Prim.Native.Nat.{ℕ, ◌+◌, ◌%◌, ◌^◌, ◌≤◌, ◌<◌}
use mathlib.Core.List.{List, ◌++◌}
use mathlib.Core.Path.{◌≡◌, refl, ap, ◌∙◌}
use native.Mathlib.Omega.{arith}
use lib.ListN.{length}
use Rattle.std.specs.Prelude.{Some, None, option_map}
use Rattle.eit.specs.Fields.{big_endian}
use Rattle.eit.proofs.Fields.{big_endian_mod}
use Rattle.sections.specs.Section.{header_size}
use Rattle.sections.specs.Encode.{length_word, version_byte, header_bytes}
use Rattle.sections.specs.Decode.{header_in}
use Rattle.sections.proofs.Lengths.{header_length}
use Rattle.codec.specs.Write.{write_at}
use Rattle.codec_section.specs.HeaderRead.{held_header, front_bytes, rest_bytes, header_read}
use Rattle.codec_section.specs.declared.header.SectionHeader.{SectionHeader}
use Rattle.codec.proofs.WriteLaws.{write_then, write_short}
use Rattle.std.proofs.lemmas.Bool.Decides.{nat_tests}

pub header_joined : (size : ℕ) (h : SectionHeader) → front_bytes size h ++ rest_bytes h ≡ header_bytes size (held_header h)
unfolding header_bytes
header_joined size h = refl

module _ (d : List ℕ) (at : ℕ) (h : SectionHeader) where
  pub front_written : (size : ℕ) {d₁ d₂ d₃ d₄ : List ℕ} {word : ℕ} → at + 6 ≤ length d
      → d₁ ≡ write_at d at (big_endian 1 h.table_id)
      → word ≡ length_word size % 256 ^ 2
      → d₂ ≡ write_at d₁ (at + 1) (big_endian 2 word)
      → d₃ ≡ write_at d₂ (at + 3) (big_endian 2 h.triplet.service_id)
      → d₄ ≡ write_at d₃ (at + 5) (big_endian 1 (version_byte h.version))
      → d₄ ≡ write_at d at (front_bytes size h)
  front_written size {d₁} fits table is_IsWord stated service version =
      let tables : List ℕ = big_endian 1 h.table_id in
      let lengths : List ℕ = big_endian 2 (length_word size) in
      let services : List ℕ = big_endian 2 h.triplet.service_id in
      let versions : List ℕ = big_endian 1 (version_byte h.version) in
      let same : big_endian 2 _ ≡ lengths = ap (big_endian 2) is_IsWord ∙ big_endian_mod 2 (length_word size) in
      let to-length = write_then d at tables lengths (omega arith) table (stated ∙ ap (write_at d₁ (at + 1)) same) in
      let to-service = write_then d at (tables ++ lengths) services (omega arith) to-length service in
      write_then d at (tables ++ lengths ++ services) versions (omega arith) to-service version

  pub rest_written : {d₁ d₂ d₃ d₄ d₅ d₆ : List ℕ} → at + 8 ≤ length d
      → d₁ ≡ write_at d at (big_endian 1 h.section_number)
      → d₂ ≡ write_at d₁ (at + 1) (big_endian 1 h.last_section_number)
      → d₃ ≡ write_at d₂ (at + 2) (big_endian 2 h.triplet.transport_stream_id)
      → d₄ ≡ write_at d₃ (at + 4) (big_endian 2 h.triplet.original_network_id)
      → d₅ ≡ write_at d₄ (at + 6) (big_endian 1 h.segment_last_section_number)
      → d₆ ≡ write_at d₅ (at + 7) (big_endian 1 h.last_table_id)
      → d₆ ≡ write_at d at (rest_bytes h)
  rest_written fits number last stream network segment table =
      let numbers : List ℕ = big_endian 1 h.section_number in
      let lasts : List ℕ = big_endian 1 h.last_section_number in
      let streams : List ℕ = big_endian 2 h.triplet.transport_stream_id in
      let networks : List ℕ = big_endian 2 h.triplet.original_network_id in
      let segments : List ℕ = big_endian 1 h.segment_last_section_number in
      let tables : List ℕ = big_endian 1 h.last_table_id in
      let to_last = write_then d at numbers lasts (omega arith) number last in
      let to-stream = write_then d at (numbers ++ lasts) streams (omega arith) to_last stream in
      let to-network = write_then d at (numbers ++ lasts ++ streams) networks (omega arith) to-stream network in
      let to-segment =
      write_then d at (numbers ++ lasts ++ streams ++ networks) segments (omega arith) to-network segment in
      write_then d at (numbers ++ lasts ++ streams ++ networks ++ segments) tables (omega arith) to-segment table

-- both, one behind the other
pub header_written : {d₁ d₂ : List ℕ} (d : List ℕ) (at size : ℕ) (h : SectionHeader) → at + header_size ≤ length d
    → d₁ ≡ write_at d at (front_bytes size h)
    → d₂ ≡ write_at d₁ (at + 6) (rest_bytes h)
    → d₂ ≡ write_at d at (header_bytes size (held_header h))
header_written d at size h fits front rest =
    write_then d at (front_bytes size h) (rest_bytes h) fits front rest ∙ ap (write_at d at) (header_joined size h)

pub header_short : (d : List ℕ) (at size : ℕ) (h : SectionHeader) → length d < at + header_size
    → write_at d at (header_bytes size (held_header h)) ≡ d
header_short d at size h short =
    write_short d at (header_bytes size (held_header h)) (omega (arith, header_length size (held_header h)))

pub ruleset header_laws = (header_written, header_short)

-- what was read, and what it says of the bytes
module _ (bs : List ℕ) where
  pub header_only : {h : SectionHeader} → option_map held_header (Some h) ≡ header_read bs
      → (header_size ≤ length bs) × (held_header h ≡ header_in bs)
  header_only {h} read = grind (arith, nat_tests)

  pub short_only : option_map held_header None ≡ header_read bs → length bs < header_size
  short_only read = grind (arith, nat_tests)
