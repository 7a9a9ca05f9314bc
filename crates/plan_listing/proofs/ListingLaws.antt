-- The lines of a listing that are left from an offset of the file on: the step of the walk. Assumes nothing.
use Prim.Native.Nat.{ℕ, ◌≤◌, ◌<◌}
use mathlib.Core.List.{List, ◌++◌, flatten, append_assoc}
use mathlib.Core.Path.{◌≡◌, refl, ap, ◌∙◌}
use lib.ListN.{length, drop}
use Rattle.sections.specs.Decode.{header_in, split_events, split_file}
use Rattle.read_walk.specs.SectionAt.{section_at, section_end}
use Rattle.read_walk.proofs.SectionAtLaws.{walk_end, walk_next}
use Rattle.plan_listing.specs.Listing.{space, newline, number_then, title_line, section_line}
use Rattle.plan_listing.specs.Listing.{section_lines, bytes_word, listing}
use Rattle.plan_listing.specs.Writes.{Writes}
use Rattle.plan_listing.specs.declared.text.Writer.{Writer}
use Rattle.plan_listing.proofs.FillLaws.{writes_two, writes_same}

-- the last line
abbrev pub last_line : List ℕ → List ℕ
last_line file = bytes_word ++ number_then (length file) newline

-- the lines of the sections from an offset on, and the last
abbrev pub lines_from : List ℕ → ℕ → List ℕ
lines_from file offset = section_lines (split_file (drop offset file)) ++ last_line file

pub listing_starts : (file : List ℕ) → listing file ≡ title_line ++ lines_from file 0
unfolding listing
listing_starts file = refl

module _ (file : List ℕ) (offset : ℕ) where
  pub lines_end : length file ≤ offset → lines_from file offset ≡ last_line file
  unfolding section_lines flatten
  lines_end end = ap (λ (pieces : List (List ℕ)). section_lines pieces ++ last_line file) (walk_end file offset end)

  pub lines_next : {section : List ℕ} {end : ℕ} → section ≡ section_at file offset → end ≡ section_end file offset
      → offset < length file → lines_from file offset ≡ section_line section ++ lines_from file end
  unfolding section_lines flatten
  lines_next {section} {end} met ends inside =
      ap (λ (pieces : List (List ℕ)). section_lines pieces ++ last_line file) (walk_next file offset ends met inside)
      ∙ append_assoc (section_line section) (section_lines (split_file (drop end file))) (last_line file)

-- ---- one line

-- its three numbers, one behind the other
pub line_written : {q r s t : Writer} (bs : List ℕ) {table number events : ℕ}
    → table ≡ (header_in bs).table_id → number ≡ (header_in bs).section_number → events ≡ length (split_events bs)
    → Writes q (number_then table space) r → Writes r (number_then number space) s
    → Writes s (number_then events newline) t → Writes q (section_line bs) t
unfolding section_line
line_written bs is-table is_number is-events first second third =
    let table : List ℕ = number_then (header_in bs).table_id space in
    let number : List ℕ = number_then (header_in bs).section_number space in
    let events : List ℕ = number_then (length (split_events bs)) newline in
    writes_two (table ++ number) events
    (writes_two table number
    (writes_same (ap (λ (n : ℕ). number_then n space) is-table) first)
    (writes_same (ap (λ (n : ℕ). number_then n space) is_number) second))
    (writes_same (ap (λ (n : ℕ). number_then n newline) is-events) third)
