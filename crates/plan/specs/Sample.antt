-- Document 01's sample of program plan ("Samples with the cuts marked"): its input and what it gives. Assumes nothing.
use Rattle.std.specs.Prelude.{ℕ, List, [], ◌∷◌}

-- "Input 01 0001 0000B34C 000018BA 00 00000000 0000 (hexadecimal)"
abbrev pub sample_script : List ℕ
sample_script =
    0x01 ∷ 0x00 ∷ 0x01 ∷ 0x00 ∷ 0x00 ∷ 0xB3 ∷ 0x4C ∷ 0x00 ∷ 0x00 ∷ 0x18 ∷ 0xBA
    ∷ 0x00 ∷ 0x00 ∷ 0x00 ∷ 0x00 ∷ 0x00 ∷ 0x00 ∷ 0x00 ∷ []

-- "gives": the header, five sections of table 80, the last with one event, and `bytes 102`
abbrev pub sample_text : List ℕ
sample_text =
    116 ∷ 97 ∷ 98 ∷ 108 ∷ 101 ∷ 32 ∷ 115 ∷ 101 ∷ 99 ∷ 116 ∷ 105 ∷ 111 ∷ 110 ∷ 32 ∷ 101 ∷ 118 ∷ 101 ∷ 110 ∷ 116 ∷ 115 ∷
    10
    ∷ 56 ∷ 48 ∷ 32 ∷ 48 ∷ 32 ∷ 48 ∷ 10
    ∷ 56 ∷ 48 ∷ 32 ∷ 56 ∷ 32 ∷ 48 ∷ 10
    ∷ 56 ∷ 48 ∷ 32 ∷ 49 ∷ 54 ∷ 32 ∷ 48 ∷ 10
    ∷ 56 ∷ 48 ∷ 32 ∷ 50 ∷ 52 ∷ 32 ∷ 48 ∷ 10
    ∷ 56 ∷ 48 ∷ 32 ∷ 51 ∷ 50 ∷ 32 ∷ 49 ∷ 10
    ∷ 98 ∷ 121 ∷ 116 ∷ 101 ∷ 115 ∷ 32 ∷ 49 ∷ 48 ∷ 50 ∷ 10 ∷ []
