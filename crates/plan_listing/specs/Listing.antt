-- The text of program plan (01, "Samples with the cuts marked"), in ASCII; every line ends with a newline, the last
-- too. Laws: proofs/DecimalLaws.antt, proofs/ListingLaws.antt. Assumes nothing.
use Rattle.std.specs.Prelude.{ℕ, zero, suc, ◌+◌, ◌/◌, ◌%◌, true, false, ltb, length}
use mathlib.Core.List.{List, [], ◌∷◌, ◌++◌, map, flatten}
use Rattle.sections.specs.Decode.{header_in, split_events, split_file}

abbrev pub space : ℕ
space = 32

abbrev pub newline : ℕ
newline = 10

-- ---- a number

-- "in decimal": the last digits of n, at most so many, the high ones first and no 0 before them
unfoldable pub decimal_up_to : ℕ → ℕ → List ℕ
decimal_up_to zero n = []
decimal_up_to (suc most) n =
    elim (ltb n 10) [ true ↦ (48 + n) ∷ [] | false ↦ decimal_up_to most (n / 10) ++ ((48 + n % 10) ∷ []) ]

-- all of them: n has at most n + 1
unfoldable pub decimal_of : ℕ → List ℕ
unfolding decimal_up_to
decimal_of n = decimal_up_to (suc n) n

-- a number and the byte behind it
unfoldable pub number_then : ℕ → ℕ → List ℕ
unfolding decimal_of
number_then n after = decimal_of n ++ (after ∷ [])

-- ---- a file

-- "It prints a header": `table section events`
abbrev pub title_line : List ℕ
title_line =
    116 ∷ 97 ∷ 98 ∷ 108 ∷ 101 ∷ space
    ∷ 115 ∷ 101 ∷ 99 ∷ 116 ∷ 105 ∷ 111 ∷ 110 ∷ space
    ∷ 101 ∷ 118 ∷ 101 ∷ 110 ∷ 116 ∷ 115 ∷ newline ∷ []

-- "then a line for each section with table, section number and number of events, in decimal and with single spaces"
unfoldable pub section_line : List ℕ → List ℕ
unfolding number_then split_events
section_line bs =
    number_then (header_in bs).table_id space
    ++ number_then (header_in bs).section_number space
    ++ number_then (length (split_events bs)) newline

unfoldable pub section_lines : List (List ℕ) → List ℕ
unfolding section_line flatten
section_lines sections = flatten (map section_line sections)

-- "then `bytes`, a space and the file's length"
abbrev pub bytes_word : List ℕ
bytes_word = 98 ∷ 121 ∷ 116 ∷ 101 ∷ 115 ∷ space ∷ []

unfoldable pub listing : List ℕ → List ℕ
unfolding section_lines split_file number_then
listing file = title_line ++ (section_lines (split_file file) ++ (bytes_word ++ number_then (length file) newline))

-- ---- no file

-- "or one line, `refused`, a space and the number"
abbrev pub refused_word : List ℕ
refused_word = 114 ∷ 101 ∷ 102 ∷ 117 ∷ 115 ∷ 101 ∷ 100 ∷ space ∷ []

unfoldable pub refused_text : ℕ → List ℕ
unfolding number_then
refused_text number = refused_word ++ number_then number newline

-- "over 65,536 bytes it prints `too long`"
abbrev pub too_long : List ℕ
too_long = 116 ∷ 111 ∷ 111 ∷ space ∷ 108 ∷ 111 ∷ 110 ∷ 103 ∷ newline ∷ []
