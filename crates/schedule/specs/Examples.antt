-- Build and Plan computed on short lists, in sections so short that they hold one to three events without
-- descriptors: where a section ends, its numbers, when a segment is unpackable, the need, Plan's counts, and a file
-- byte by byte. The value is in proofs/Examples.antt. Assumes nothing.
use Rattle.std.specs.Prelude.{ℕ, ◌≡◌, List, [], ◌∷◌, ◌++◌, replicate}
use Rattle.eit.specs.declared.Sizes.{Sizes}
use Rattle.schedule.specs.Build.{Built}
use Rattle.schedule.specs.ExampleLists.{Case, plain_events, gap, crowded, described, uneven}
use Rattle.schedule.specs.ExampleCalls.{build_with, plan_with, sections_with, section_row, padded}

-- sections of at most so many bytes
abbrev pub sections_of_at_most : ℕ → Sizes
sections_of_at_most bytes = record { section_limit = bytes; event_limit = 18 }

-- Build into an empty output: 11 if the list is packable
abbrev pub answer : ℕ → Case → Built
answer bytes c = build_with (sections_of_at_most bytes) c 49_273 0 []

-- the file of `gap`: a line for each header, event and CRC_32
abbrev pub gap_file : List ℕ
gap_file =
    0x50 ∷ 0xF0 ∷ 0x33 ∷ 0x00 ∷ 0x01 ∷ 0xC1 ∷ 0x00 ∷ 0x10 ∷ 0x00 ∷ 0x02 ∷ 0x00 ∷ 0x03 ∷ 0x01 ∷ 0x52
    ∷ 0x00 ∷ 0x01 ∷ 0xC0 ∷ 0x79 ∷ 0x00 ∷ 0x00 ∷ 0x00 ∷ 0x00 ∷ 0x00 ∷ 0x01 ∷ 0x00 ∷ 0x00
    ∷ 0x00 ∷ 0x02 ∷ 0xC0 ∷ 0x79 ∷ 0x00 ∷ 0x00 ∷ 0x01 ∷ 0x00 ∷ 0x00 ∷ 0x01 ∷ 0x00 ∷ 0x00
    ∷ 0x00 ∷ 0x03 ∷ 0xC0 ∷ 0x79 ∷ 0x00 ∷ 0x00 ∷ 0x02 ∷ 0x00 ∷ 0x00 ∷ 0x01 ∷ 0x00 ∷ 0x00
    ∷ 0x88 ∷ 0xEB ∷ 0x32 ∷ 0xC5
    ∷ 0x50 ∷ 0xF0 ∷ 0x1B ∷ 0x00 ∷ 0x01 ∷ 0xC1 ∷ 0x01 ∷ 0x10 ∷ 0x00 ∷ 0x02 ∷ 0x00 ∷ 0x03 ∷ 0x01 ∷ 0x52
    ∷ 0x00 ∷ 0x04 ∷ 0xC0 ∷ 0x79 ∷ 0x00 ∷ 0x00 ∷ 0x03 ∷ 0x00 ∷ 0x00 ∷ 0x01 ∷ 0x00 ∷ 0x00
    ∷ 0x56 ∷ 0x9A ∷ 0x41 ∷ 0x48
    ∷ 0x50 ∷ 0xF0 ∷ 0x0F ∷ 0x00 ∷ 0x01 ∷ 0xC1 ∷ 0x08 ∷ 0x10 ∷ 0x00 ∷ 0x02 ∷ 0x00 ∷ 0x03 ∷ 0x08 ∷ 0x52
    ∷ 0xC9 ∷ 0x9A ∷ 0x09 ∷ 0x3E
    ∷ 0x50 ∷ 0xF0 ∷ 0x1B ∷ 0x00 ∷ 0x01 ∷ 0xC1 ∷ 0x10 ∷ 0x10 ∷ 0x00 ∷ 0x02 ∷ 0x00 ∷ 0x03 ∷ 0x10 ∷ 0x52
    ∷ 0x00 ∷ 0x05 ∷ 0xC0 ∷ 0x79 ∷ 0x06 ∷ 0x00 ∷ 0x00 ∷ 0x00 ∷ 0x00 ∷ 0x01 ∷ 0x00 ∷ 0x00
    ∷ 0x0D ∷ 0xAD ∷ 0x06 ∷ 0x47
    ∷ 0x51 ∷ 0xF0 ∷ 0x0F ∷ 0x00 ∷ 0x01 ∷ 0xC1 ∷ 0x00 ∷ 0x00 ∷ 0x00 ∷ 0x02 ∷ 0x00 ∷ 0x03 ∷ 0x00 ∷ 0x52
    ∷ 0x36 ∷ 0xDB ∷ 0xAE ∷ 0x5F
    ∷ 0x52 ∷ 0xF0 ∷ 0x0F ∷ 0x00 ∷ 0x01 ∷ 0xC1 ∷ 0x00 ∷ 0x08 ∷ 0x00 ∷ 0x02 ∷ 0x00 ∷ 0x03 ∷ 0x00 ∷ 0x52
    ∷ 0x8D ∷ 0xFA ∷ 0x86 ∷ 0xFA
    ∷ 0x52 ∷ 0xF0 ∷ 0x1B ∷ 0x00 ∷ 0x01 ∷ 0xC1 ∷ 0x08 ∷ 0x08 ∷ 0x00 ∷ 0x02 ∷ 0x00 ∷ 0x03 ∷ 0x08 ∷ 0x52
    ∷ 0x00 ∷ 0x06 ∷ 0xC0 ∷ 0x81 ∷ 0x03 ∷ 0x00 ∷ 0x00 ∷ 0x00 ∷ 0x00 ∷ 0x01 ∷ 0x00 ∷ 0x00
    ∷ 0xB1 ∷ 0xB7 ∷ 0x4C ∷ 0x36 ∷ []

pub record Examples : Type 0 where
  -- three events fill a section of 54 bytes, and the fourth stands in the next; section numbers 0, 1, 8, 16 after
  -- a short segment and an empty one; an empty table; tables end with their last events. Each section's table_id;
  -- S, G, L, last_table_id; ids
  pub gap_sections :
      sections_with section_row (sections_of_at_most 54) gap
      ≡ (0x50, (0, 1, 16, 0x52), 1 ∷ 2 ∷ 3 ∷ [])
      ∷ (0x50, (1, 1, 16, 0x52), 4 ∷ [])
      ∷ (0x50, (8, 8, 16, 0x52), [])
      ∷ (0x50, (16, 16, 16, 0x52), 5 ∷ [])
      ∷ (0x51, (0, 0, 0, 0x52), [])
      ∷ (0x52, (0, 0, 8, 0x52), [])
      ∷ (0x52, (8, 8, 8, 0x52), 6 ∷ [])
      ∷ []
  pub gap_plan : plan_with (sections_of_at_most 54) gap ≡ padded ((2 ∷ 1 ∷ 1 ∷ []) ∷ (1 ∷ []) ∷ (1 ∷ 1 ∷ []) ∷ [])
  -- byte by byte; the byte beyond the file stays
  pub gap_file_holds :
      build_with (sections_of_at_most 54) gap 49_273 0 (replicate 199 0xAA)
      ≡ record { number = 0; value = 198; output = gap_file ++ (0xAA ∷ []) }
  -- the need, whatever the output's length
  pub gap_short :
      build_with (sections_of_at_most 54) gap 49_273 0 (replicate 5 0xAA)
      ≡ record { number = 11; value = 198; output = replicate 5 0xAA }
  -- one event fills a section of 30 bytes: eight of them are eight sections, and a ninth makes the segment unpackable
  pub eight_packed : answer 30 (plain_events 0 8) ≡ record { number = 11; value = 240; output = [] }
  pub eight_plan : plan_with (sections_of_at_most 30) (plain_events 0 8) ≡ padded ((8 ∷ []) ∷ [])
  -- the lowest such segment index; Plan has 255 at each
  pub nine_unpackable : answer 30 crowded ≡ record { number = 10; value = 1; output = [] }
  pub nine_plan : plan_with (sections_of_at_most 30) crowded ≡ padded ((1 ∷ 255 ∷ []) ∷ (1 ∷ 255 ∷ []) ∷ [])
  -- the same events, two to a section
  pub nine_packed : answer 42 crowded ≡ record { number = 11; value = 432; output = [] }
  pub pairs_plan : plan_with (sections_of_at_most 42) crowded ≡ padded ((1 ∷ 5 ∷ []) ∷ (1 ∷ 5 ∷ []) ∷ [])
  -- nine in the last segment alone
  pub nine_last : answer 30 (plain_events 356_400 9) ≡ record { number = 10; value = 33; output = [] }
  -- two events that fill their section, and two that are a byte too long for one
  pub two_together : plan_with (sections_of_at_most 44) uneven ≡ padded ((1 ∷ []) ∷ [])
  pub two_apart : plan_with (sections_of_at_most 43) uneven ≡ padded ((2 ∷ []) ∷ [])
  -- an event that fills its section, and one that is a byte too long
  pub chain_fits : answer 32 described ≡ record { number = 11; value = 32; output = [] }
  pub chain_too_long : answer 31 described ≡ record { number = 10; value = 0; output = [] }
