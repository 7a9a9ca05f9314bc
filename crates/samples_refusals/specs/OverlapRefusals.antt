-- Read's 24 for an event that starts before the one before it ends (02, W-204: "Touching is legal. Read treats overlap
-- as a broken event rule (24)"): in one section, and from section to section, always charged to the later one. Each
-- event 1 starts at 00:00:00, and event 2 when it ends or a second earlier. The value is in proofs/Refused.antt.
-- Assumes nothing.
use Rattle.std.specs.Prelude.{ℕ, ◌≡◌, List, [], ◌∷◌, ◌++◌}
use Rattle.sections.specs.Files.{section, event_at, first_for, three_hours}
use Rattle.sections.specs.FileAnswers.{check_answer, accepted_with, refused_with}

-- seconds, two digits, by which event 1 is longer than an hour; event 2 at one o'clock is in the same section, and in
-- the next one of the segment
abbrev pub same_section : ℕ → List ℕ
same_section seconds = section 0x50 0 0 0 0x50 (first_for 0x01 seconds ++ event_at 2 0x01 0x00)

abbrev pub next_section : ℕ → List ℕ
next_section seconds =
    section 0x50 0 1 1 0x50 (first_for 0x01 seconds) ++ section 0x50 1 1 1 0x50 (event_at 2 0x01 0x00)

-- event 2 four days after the base day, of a second: its hour as two digits
abbrev pub four_days_later : ℕ → List ℕ
four_days_later hour =
    0x00 ∷ 0x02 ∷ 0xC0 ∷ 0x7D ∷ hour ∷ 0x00 ∷ 0x00 ∷ 0x00 ∷ 0x00 ∷ 0x01 ∷ 0x00 ∷ 0x00 ∷ []

-- longer than 96 hours; event 2 is at the start of the next table
abbrev pub next_table : ℕ → List ℕ
next_table seconds =
    section 0x50 0 0 0 0x51 (first_for 0x96 seconds) ++ section 0x51 0 0 0 0x51 (four_days_later 0x00)

-- longer than 99 hours; event 2 is in the next table behind an empty segment
abbrev pub inside_next_table : ℕ → List ℕ
inside_next_table seconds =
    section 0x50 0 0 0 0x51 (first_for 0x99 seconds)
    ++ section 0x51 0 8 0 0x51 []
    ++ section 0x51 8 8 8 0x51 (four_days_later 0x03)

pub record OverlapRefusals : Type 0 where
  pub section_touching : check_answer (same_section 0x00) ≡ accepted_with 2
  pub section_overlap : check_answer (same_section 0x01) ≡ refused_with 24 0
  pub sections_touching : check_answer (next_section 0x00) ≡ accepted_with 2
  pub sections_overlap : check_answer (next_section 0x01) ≡ refused_with 24 30
  pub segments_touching : check_answer (three_hours 0x00) ≡ accepted_with 2
  pub segments_overlap : check_answer (three_hours 0x01) ≡ refused_with 24 30
  pub tables_touching : check_answer (next_table 0x00) ≡ accepted_with 2
  pub tables_overlap : check_answer (next_table 0x01) ≡ refused_with 24 30
  pub inside_touching : check_answer (inside_next_table 0x00) ≡ accepted_with 2
  pub inside_overlap : check_answer (inside_next_table 0x01) ≡ refused_with 24 48
