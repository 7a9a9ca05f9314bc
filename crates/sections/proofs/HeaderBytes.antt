-- A header that fits comes back from its 14 bytes, and 14 bytes with the fixed bits are those of the header that they
-- show: field by field, where section_length and the version share their bytes with fixed bits by arithmetic.
-- Assumes nothing.
use mathlib.Core.Path.{◌≡◌, ap, ◌∙◌}
use Prim.Native.Nat.{ℕ, ◌+◌, ◌-◌, ◌/◌, ◌%◌, ◌^◌, ◌≤◌, ◌<◌}
use native.Mathlib.Nat.{add-sub_of_le}
use native.Mathlib.Omega.{arith}
use mathlib.Core.Bool.{◌&&◌}
use mathlib.Core.List.{List, ◌++◌}
use lib.Dec.{T, eqb, eqb→eq}
use lib.ListN.{length, take}
use lib.Seq.{take-add}
use Rattle.eit.specs.Limits.{version_max}
use Rattle.eit.specs.Fields.{Bytes, big_endian, value_of, bytes_at, field}
use Rattle.eit.specs.declared.Identity.{Identity}
use Rattle.eit.proofs.Fields.{value_back, field_fits, field_forth}
use Rattle.eit.proofs.Test.{and_parts}
use Rattle.sections.specs.Segment.{table_max}
use Rattle.sections.specs.Section.{Header}
use Rattle.sections.specs.Encode.{length_word, version_byte, header_bytes}
use Rattle.sections.specs.Decode.{stated_section_size, header_in}
use Rattle.sections.specs.HeaderTests.{has_fixed_bits}
use Rattle.sections.specs.Rules.{TripletRules, IdentityRules, HeaderRules}
use Rattle.sections.proofs.Version.{version_fits}

-- ---- headers that fit

-- the numbers have a byte each, and triplet and version fit their fields
pub record HeaderFits (h : Header) : Type 0 where
  pub table : h.table_id < 256
  pub number : h.section_number < 256
  pub last : h.last_section_number < 256
  pub segment_last : h.segment_last_section_number < 256
  pub last_table : h.last_table_id < 256
  pub triplet_rules : TripletRules h.triplet
  pub version : h.version ≤ version_max

-- a header that keeps the rules fits
pub rules_fit : (identity : Identity) (last_table_id : ℕ) (h : Header)
    → IdentityRules identity
    → last_table_id ≤ table_max
    → HeaderRules identity last_table_id h
    → HeaderFits h
rules_fit identity last_table_id h known most rules =
    let n = rules.numbered in
    record {
      table = omega (arith, rules.most);
      number = omega (arith, n.segment, n.table, rules.byte);
      last = rules.byte;
      segment_last = omega (arith, n.table, rules.byte);
      last_table = omega (arith, rules.same_last_table);
      triplet_rules = rw rules.same_triplet known.triplet_rules;
      version = rw rules.same_version (version_fits identity h.table_id known);
    }

-- ---- fields that share their bytes with fixed bits

-- bits 1111 and 12 bits
length_word_holds : (n : ℕ) → n < 0x1000 → ((0xF000 + n) % 0x1000 ≡ n) × ((0xF000 + n) / 0x1000 ≡ 0xF) × (0xF000 + n < 65_536)
length_word_holds n few = omega arith

length_word_only : (w : ℕ) → w / 0x1000 ≡ 0xF → 0xF000 + (3 + w % 0x1000 - 3) ≡ w
length_word_only w fixed = omega arith

-- bits 11, 5 bits, bit 1
version_byte_holds : (v : ℕ) → v ≤ version_max → version_byte v < 256
version_byte_holds v most = omega arith

version_back : (v : ℕ) → v ≤ version_max → version_byte v / 2 % 32 ≡ v
version_back v most = omega arith

version_fixed : (v : ℕ) → v ≤ version_max → (version_byte v / 64 ≡ 3) × (version_byte v % 2 ≡ 1)
version_fixed v most = omega arith

version_most : (b : ℕ) → b / 2 % 32 ≤ version_max
version_most b = omega arith

version_only : (b : ℕ) → b / 64 ≡ 3 → b % 2 ≡ 1 → version_byte (b / 2 % 32) ≡ b
version_only b high low = omega arith

-- the test of the fixed bits, of a length word w and a version byte b
fixed_bits : (w b : ℕ) → w / 0x1000 ≡ 0xF → b / 64 ≡ 3 → b % 2 ≡ 1
    → T (eqb (w / 0x1000) 0xF && (eqb (b / 64) 3 && eqb (b % 2) 1))
fixed_bits w b four two one = rw (four, two, one) tt

fixed_bits_only : (w b : ℕ) → T (eqb (w / 0x1000) 0xF && (eqb (b / 64) 3 && eqb (b % 2) 1))
    → (w / 0x1000 ≡ 0xF) × (b / 64 ≡ 3) × (b % 2 ≡ 1)
fixed_bits_only w b t =
    let (four, others) = and_parts (eqb (w / 0x1000) 0xF) (eqb (b / 64) 3 && eqb (b % 2) 1) t in
    let (two, one) = and_parts (eqb (b / 64) 3) (eqb (b % 2) 1) others in
    (eqb→eq (w / 0x1000) 0xF four, eqb→eq (b / 64) 3 two, eqb→eq (b % 2) 1 one)

-- ---- back

-- each byte is a digit to the base 256
digit : (n : ℕ) → n % 256 < 256
digit n = omega arith

pub header_bytes_holds : (size : ℕ) (h : Header) → Bytes (header_bytes size h)
unfolding header_bytes
header_bytes_holds size h = search digit depth 16

byte_back : (n : ℕ) → n < 256 → value_of (big_endian 1 n) ≡ n
byte_back n few = value_back 1 n few

pub header_back : (size : ℕ) (h : Header) (rest : List ℕ) → HeaderFits h → header_in (header_bytes size h ++ rest) ≡ h
unfolding header_bytes
header_back size h rest fits =
    let t = h.triplet in
    let rules = fits.triplet_rules in
    let v : ℕ = h.version in
    let most : v ≤ version_max = fits.version in
    let byte : value_of (big_endian 1 (version_byte v)) ≡ version_byte v =
    byte_back (version_byte v) (version_byte_holds v most) in
    let version : value_of (big_endian 1 (version_byte v)) / 2 % 32 ≡ v = rw byte (version_back v most) in
    λ k. record {
      table_id = byte_back h.table_id fits.table k;
      section_number = byte_back h.section_number fits.number k;
      last_section_number = byte_back h.last_section_number fits.last k;
      segment_last_section_number = byte_back h.segment_last_section_number fits.segment_last k;
      last_table_id = byte_back h.last_table_id fits.last_table k;
      triplet =
          record {
            service_id = value_back 2 t.service_id rules.service k;
            transport_stream_id = value_back 2 t.transport_stream_id rules.stream k;
            original_network_id = value_back 2 t.original_network_id rules.network k;
          };
      version = version k;
    }

length_back : (size : ℕ) → size - 3 < 0x1000 → value_of (big_endian 2 (length_word size)) ≡ length_word size
length_back size few = value_back 2 (length_word size) (length_word_holds (size - 3) few).2

-- a size whose section_length has 12 bits
pub header_stated : (size : ℕ) (h : Header) (rest : List ℕ)
    → 3 ≤ size
    → size < 0x1003
    → stated_section_size (header_bytes size h ++ rest) ≡ size
unfolding header_bytes
header_stated size h rest least most =
    let few : size - 3 < 0x1000 = omega arith in
    ap (λ (w : ℕ). 3 + w % 0x1000) (length_back size few)
    ∙ ap (λ (n : ℕ). 3 + n) (length_word_holds (size - 3) few).0
    ∙ add-sub_of_le least

pub header_fixed : (size : ℕ) (h : Header) (rest : List ℕ)
    → 3 ≤ size
    → size < 0x1003
    → h.version ≤ version_max
    → T (has_fixed_bits (header_bytes size h ++ rest))
unfolding header_bytes
header_fixed size h rest least most known =
    let v : ℕ = h.version in
    let few : size - 3 < 0x1000 = omega arith in
    let word : value_of (big_endian 2 (length_word size)) ≡ length_word size = length_back size few in
    let byte : value_of (big_endian 1 (version_byte v)) ≡ version_byte v =
    byte_back (version_byte v) (version_byte_holds v known) in
    let (high, low) = version_fixed v known in
    fixed_bits (value_of (big_endian 2 (length_word size))) (value_of (big_endian 1 (version_byte v)))
    (rw word (length_word_holds (size - 3) few).1)
    (rw byte high)
    (rw byte low)

-- ---- forth

module _ (bs : List ℕ) (bytes : Bytes bs) (enough : 14 ≤ length bs) where
  -- the field of w bytes from o on
  fits : (o w : ℕ) → o + w ≤ 14 → field o w bs < 256 ^ w
  fits o w inside = field_fits bs bytes o w (omega arith)

  forth : (o w : ℕ) → o + w ≤ 14 → big_endian w (field o w bs) ≡ bytes_at o w bs
  forth o w inside = field_forth bs bytes o w (omega arith)

  pub header_fits : HeaderFits (header_in bs)
  header_fits =
      record {
        table = fits 0 1 (omega arith);
        number = fits 6 1 (omega arith);
        last = fits 7 1 (omega arith);
        segment_last = fits 12 1 (omega arith);
        last_table = fits 13 1 (omega arith);
        triplet_rules =
            record {
              service = fits 3 2 (omega arith);
              stream = fits 8 2 (omega arith);
              network = fits 10 2 (omega arith);
            };
        version = version_most (field 5 1 bs);
      }

  length_forth : field 1 2 bs / 0x1000 ≡ 0xF → big_endian 2 (length_word (stated_section_size bs)) ≡ bytes_at 1 2 bs
  length_forth fixed = ap (big_endian 2) (length_word_only (field 1 2 bs) fixed) ∙ forth 1 2 (omega arith)

  version_forth : field 5 1 bs / 64 ≡ 3 → field 5 1 bs % 2 ≡ 1
      → big_endian 1 (version_byte (header_in bs).version) ≡ bytes_at 5 1 bs
  version_forth high low = ap (big_endian 1) (version_only (field 5 1 bs) high low) ∙ forth 5 1 (omega arith)

  -- 14 bytes with the fixed bits are those of the header that they show
  pub header_forth : T (has_fixed_bits bs) → header_bytes (stated_section_size bs) (header_in bs) ≡ take 14 bs
  unfolding header_bytes
  header_forth t =
      let (four, two, one) = fixed_bits_only (field 1 2 bs) (field 5 1 bs) t in
      (λ i.
      forth 0 1 (omega arith) i
      ++ length_forth four i
      ++ forth 3 2 (omega arith) i
      ++ version_forth two one i
      ++ forth 6 1 (omega arith) i
      ++ forth 7 1 (omega arith) i
      ++ forth 8 2 (omega arith) i
      ++ forth 10 2 (omega arith) i
      ++ forth 12 1 (omega arith) i
      ++ forth 13 1 (omega arith) i)
      ∙ rw (
        ← take-add 1 2 bs,
        ← take-add 3 2 bs,
        ← take-add 5 1 bs,
        ← take-add 6 1 bs,
        ← take-add 7 1 bs,
        ← take-add 8 2 bs,
        ← take-add 10 2 bs,
        ← take-add 12 1 bs,
        ← take-add 13 1 bs,
      )
