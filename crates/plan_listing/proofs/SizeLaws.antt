-- How long the text is at most: a number below 10 ^ k has at most k digits, a line at most 12 bytes, and pieces of at
-- least three bytes are few. Assumes nothing.
use Prim.Native.Nat.{ℕ, zero, suc, pred, ◌+◌, ◌-◌, ◌*◌, ◌/◌, ◌%◌, ◌^◌, ◌≤◌, ◌<◌}
use mathlib.Core.List.{List, [], ◌∷◌, ◌++◌, flatten}
use mathlib.Core.Logic.{⊎_elim}
use mathlib.Core.Path.{◌≡◌, ap, ◌∙◌}
use native.Mathlib.Nat.{pow-suc, mul-suc}
use native.Mathlib.Omega.{arith}
use lib.ListN.{length, take, drop, length-append, length-take, length-drop}
use Rattle.eit.specs.Fields.{Bytes}
use Rattle.eit.proofs.Fields.{bytes_take}
use Rattle.eit.proofs.Test.{le_or_lt}
use Rattle.sections.specs.Split.{split_from, split_by}
use Rattle.sections.specs.Decode.{header_in, event_loop, stated_event_size, stated_section_size, split_events, split_file}
use Rattle.codec.proofs.FieldLaws.{field_small}
use Rattle.plan_listing.specs.Listing.{space, newline, decimal_up_to, decimal_of, number_then}
use Rattle.plan_listing.specs.Listing.{section_line, section_lines, bytes_word, listing, refused_text}
use Rattle.plan_listing.proofs.DecimalLaws.{decimal_one, decimal_more}

-- ---- a number

decimal_length : (most k n : ℕ) → n < 10 ^ suc k → length (decimal_up_to most n) ≤ suc k
unfolding decimal_up_to
decimal_length zero k n few = omega arith
decimal_length (suc most) zero n few = omega (arith, ap length (decimal_one most n (omega arith)))
decimal_length (suc most) (suc k) n few =
    ⊎_elim
    (λ (large : 10 ≤ n).
    let three : 10 ^ suc (suc k) ≡ 10 ^ suc k * 10 = pow-suc 10 (suc k) in
    omega (
      arith,
      decimal_length most k (n / 10) (omega arith),
      ap length (decimal_more most n large) ∙ length-append (decimal_up_to most (n / 10)) ((48 + n % 10) ∷ []),
    ))
    (λ (small : n < 10). omega (arith, ap length (decimal_one most n small)))
    (le_or_lt 10 n)

number_length : (k n after : ℕ) → n < 10 ^ suc k → length (number_then n after) ≤ 2 + k
unfolding number_then decimal_of
number_length k n after few =
    omega (arith, decimal_length (suc n) k n few, length-append (decimal_of n) (after ∷ []))

-- ---- pieces of more than k bytes each, but for the last

none_below : (k n : ℕ) → suc k * n ≤ k → suc k * n ≡ 0
none_below k zero below = omega arith
none_below k (suc n) below = absurd (omega (arith, mul-suc (suc k) n))

module _ (size : List ℕ → ℕ) (k : ℕ) (least : (bs : List ℕ) → suc k ≤ size bs) where
  few_from : (skip : ℕ) (bs : List ℕ) → suc k * length (split_from size skip bs) ≤ length (drop skip bs) + k
  few_from zero [] = omega arith
  few_from (suc skip) [] = omega arith
  few_from (suc skip) (b ∷ bs) = few_from skip bs
  few_from zero (b ∷ bs) =
      let n : ℕ = pred (size (b ∷ bs)) in
      let pieces : ℕ = length (split_from size n bs) in
      let more : suc k * suc pieces ≡ suc k * pieces + suc k = mul-suc (suc k) pieces in
      let rest : length (drop n bs) ≡ length bs - n = length-drop n bs in
      let left : suc k * pieces ≤ length (drop n bs) + k = few_from n bs in
      let some : k ≤ n = omega (arith, least (b ∷ bs)) in
      ⊎_elim
      (λ (inside : n ≤ length bs). omega arith)
      (λ (short : length bs < n). omega (arith, none_below k pieces (omega arith)))
      (le_or_lt n (length bs))

  few_pieces : (bs : List ℕ) → suc k * length (split_by size bs) ≤ length bs + k
  unfolding split_by
  few_pieces bs = few_from 0 bs

-- ---- a line

module _ (bs : List ℕ) (bytes : Bytes bs) (short : length bs ≤ 4_098) where
  few_events : length (split_events bs) < 10 ^ 3
  unfolding split_events
  few_events =
      let size : length (event_loop bs) ≤ 4_098 = simp (length-take, length-drop) (omega arith) in
      omega (arith, few_pieces stated_event_size 11 (λ (rest : List ℕ). omega arith) (event_loop bs))

  line_length : length (section_line bs) ≤ 12
  unfolding section_line
  line_length =
      let table : List ℕ = number_then (header_in bs).table_id space in
      let number : List ℕ = number_then (header_in bs).section_number space in
      let events : List ℕ = number_then (length (split_events bs)) newline in
      omega (
        arith,
        length-append (table ++ number) events,
        length-append table number,
        number_length 2 (header_in bs).table_id space (omega (arith, field_small bs 0 1 bytes)),
        number_length 2 (header_in bs).section_number space (omega (arith, field_small bs 6 1 bytes)),
        number_length 2 (length (split_events bs)) newline few_events,
      )

-- ---- a file

lines_from : (skip : ℕ) (bs : List ℕ) → Bytes bs
    → length (section_lines (split_from stated_section_size skip bs)) ≤ 12 * length (split_from stated_section_size skip bs)
unfolding section_lines flatten
lines_from zero [] bytes = omega arith
lines_from (suc skip) [] bytes = omega arith
lines_from (suc skip) (b ∷ bs) bytes = lines_from skip bs bytes.1
lines_from zero (b ∷ bs) bytes =
    let size : ℕ = stated_section_size (b ∷ bs) in
    let piece : List ℕ = take size (b ∷ bs) in
    let rest : List (List ℕ) = split_from stated_section_size (pred size) bs in
    let short : length piece ≤ 4_098 = simp length-take (omega arith) in
    omega (
      arith,
      length-append (section_line piece) (section_lines rest),
      line_length piece (bytes_take size (b ∷ bs) bytes) short,
      lines_from (pred size) bs bytes.1,
    )

-- a listing has at most four bytes for each byte of the file, and some more
pub listing_length : (file : List ℕ) → Bytes file → length file < 10 ^ 20 → length (listing file) ≤ 4 * length file + 64
unfolding listing split_file split_by
listing_length file bytes small =
    let lines : List ℕ = section_lines (split_from stated_section_size 0 file) in
    omega (
      arith,
      length-append lines (bytes_word ++ number_then (length file) newline),
      lines_from 0 file bytes,
      few_pieces stated_section_size 2 (λ (rest : List ℕ). omega arith) file,
      number_length 19 (length file) newline small,
    )

pub refused_length : (number : ℕ) → number < 10 ^ 20 → length (refused_text number) ≤ 64
unfolding refused_text
refused_length number small = omega (arith, number_length 19 number newline small)
