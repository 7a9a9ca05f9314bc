-- What is left of a section's bytes, version and CRC_32 aside: with the version it gives the section again. By the
-- places of the bytes in a section. Assumes nothing.
use mathlib.Core.Path.{◌≡◌, refl, sym, ap, ap₂, ◌∙◌}
use mathlib.Core.List.{List, ◌++◌, append_assoc}
use Prim.Native.Nat.{ℕ, ◌+◌, ◌-◌, ◌%◌, ◌≤◌}
use native.Mathlib.Omega.{arith}
use lib.ListN.{length, take, drop, length-append, length-drop, take-append-drop}
use lib.Seq.{take_at, drop_at, length-take-le, take-append-le, drop-append-le, drop-drop}
use Rattle.eit.specs.Fields.{big_endian, bytes_at}
use Rattle.eit.specs.Crc.{crc32}
use Rattle.eit.proofs.Fields.{field_append}
use Rattle.sections.specs.Section.{Section, section_size}
use Rattle.sections.specs.Encode.{version_byte, header_bytes, covered_bytes, section_bytes}
use Rattle.sections.specs.Decode.{stated_section_size}
use Rattle.sections.proofs.Lengths.{section_length}
use Rattle.sections.proofs.SectionBack.{section_is}
use Rattle.schedule.specs.Rebuild.{unversioned}

-- ---- bytes

-- what is left of some bytes and four behind them: all but byte 5 of the former
left_of : (c crc : List ℕ) → 6 ≤ length c → length crc ≡ 4 → unversioned (c ++ crc) ≡ take 5 c ++ drop 6 c
left_of c crc enough four =
    let size : length (c ++ crc) - 10 ≡ length (drop 6 c) =
    simp length-drop (omega (arith, length-append c crc)) in
    ap₂ (λ (xs ys : List ℕ). xs ++ ys) (take-append-le 5 c crc (omega arith))
    (ap₂ (λ (n : ℕ) (xs : List ℕ). take n xs) size (drop-append-le 6 c crc enough)
    ∙ take_at (drop 6 c) crc (length (drop 6 c)) refl)

-- and byte 5 put back
restored : (c : List ℕ) → 6 ≤ length c
    → let left = take 5 c ++ drop 6 c in
    c ≡ take 5 left ++ bytes_at 5 1 c ++ drop 5 left
restored c enough =
    let front : length (take 5 c) ≡ 5 = length-take-le 5 c (omega arith) in
    sym (take-append-drop 5 c)
    ∙ ap (λ (xs : List ℕ). take 5 c ++ xs)
    (sym (take-append-drop 1 (drop 5 c)) ∙ ap (λ (xs : List ℕ). bytes_at 5 1 c ++ xs) (drop-drop 1 5 c))
    ∙ sym (append_assoc (take 5 c) (bytes_at 5 1 c) (drop 6 c))
    ∙ ap₂ (λ (xs ys : List ℕ). xs ++ bytes_at 5 1 c ++ ys)
    (sym (take_at (take 5 c) (drop 6 c) 5 front)) (sym (drop_at (take 5 c) (drop 6 c) 5 front))

-- section_length is among the first three bytes
pub stated_front : (p q : List ℕ) → 3 ≤ length p → stated_section_size (p ++ q) ≡ stated_section_size p
stated_front p q enough = ap (λ (n : ℕ). 3 + n % 0x1000) (field_append p q 1 2 (omega arith))

-- ---- one section

module _ (base : ℕ) (s : Section) where
  pub covered_size : length (covered_bytes base s) + 4 ≡ section_size s
  covered_size =
      omega (
        arith,
        section_length base s,
        ap length (section_is base s),
        length-append (covered_bytes base s) (big_endian 4 (crc32 (covered_bytes base s))),
      )

  pub left_is : unversioned (section_bytes base s) ≡ take 5 (covered_bytes base s) ++ drop 6 (covered_bytes base s)
  left_is =
      ap unversioned (section_is base s)
      ∙ left_of (covered_bytes base s) (big_endian 4 (crc32 (covered_bytes base s))) (omega (arith, covered_size)) refl

  pub left_size_holds : length (unversioned (section_bytes base s)) ≡ section_size s - 5
  left_size_holds =
      let c : List ℕ = covered_bytes base s in
      ap length left_is
      ∙ length-append (take 5 c) (drop 6 c)
      ∙ omega (arith, length-take-le 5 c (omega (arith, covered_size)), length-drop 6 c, covered_size)

  version_is : bytes_at 5 1 (covered_bytes base s) ≡ big_endian 1 (version_byte s.header.version)
  unfolding covered_bytes header_bytes
  version_is = refl

  -- what is left of it and its version give what CRC_32 is taken over
  covered_by : covered_bytes base s
      ≡ take 5 (unversioned (section_bytes base s)) ++ big_endian 1 (version_byte s.header.version)
      ++ drop 5 (unversioned (section_bytes base s))
  covered_by =
      restored (covered_bytes base s) (omega (arith, covered_size))
      ∙ (λ i. take 5 (sym left_is i) ++ version_is i ++ drop 5 (sym left_is i))

-- so of two with the same version the same is left only if they are the same
pub same_section_holds : (a b : ℕ) (s t : Section) → s.header.version ≡ t.header.version
    → unversioned (section_bytes a s) ≡ unversioned (section_bytes b t)
    → section_bytes a s ≡ section_bytes b t
same_section_holds a b s t version left =
    let covered : covered_bytes a s ≡ covered_bytes b t =
    covered_by a s
    ∙ (λ i. take 5 (left i) ++ big_endian 1 (version_byte (version i)) ++ drop 5 (left i))
    ∙ sym (covered_by b t) in
    section_is a s
    ∙ ap (λ (c : List ℕ). c ++ big_endian 4 (crc32 c)) covered
    ∙ sym (section_is b t)
