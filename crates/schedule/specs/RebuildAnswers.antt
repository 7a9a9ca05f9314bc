-- Rebuild's refusals computed, and which comes first (02, W-208: "The previous file is read first, and its refusal
-- number and offset are returned if Read refuses it; output is then untouched. Build's refusals follow."). Some more
-- are in crate samples_proved. The value is in proofs/RebuildExamples.antt. Assumes nothing.
use Rattle.std.specs.Prelude.{ℕ, ◌≡◌, List, [], replicate}
use Rattle.eit.specs.declared.Sizes.{Sizes}
use Rattle.sections.specs.Files.{section}
use Rattle.sections.specs.VersionExamples.{empty_section, segments_with}
use Rattle.schedule.specs.Build.{Built}
use Rattle.schedule.specs.ExampleLists.{Case, plain_events, described, unsound}
use Rattle.schedule.specs.ExampleCalls.{rebuild_with}
use Rattle.schedule.specs.Examples.{sections_of_at_most}
use Rattle.schedule.specs.Answers.{refused_with}
use Rattle.schedule.specs.RebuildLists.{titled_a}

-- Rebuild of a previous file, where what follows is refused, too: an unsound list, a base day that is too late, a short
-- output
abbrev pub previous_read : Sizes → List ℕ → Built
previous_read sizes previous = rebuild_with sizes previous 49_273 unsound 65_473 (replicate 5 0xAA)

-- a refusal that leaves that output
abbrev pub previous_refused : ℕ → ℕ → Built
previous_refused number value = refused_with number value (replicate 5 0xAA)

-- Rebuild of a file without events, in sections that are too short for an event with descriptors
abbrev pub rebuild_short : Case → ℕ → List ℕ → Built
rebuild_short c base output = rebuild_with (sections_of_at_most 31) (empty_section 0xC1 0x50 0 0 0x50) 49_273 c base output

pub record RebuildAnswers : Type 0 where
  -- 1 of the previous base day, ahead of 25
  pub previous_base :
      rebuild_with (sections_of_at_most 54) [] 65_473 (plain_events 0 0) 49_273 (replicate 18 0xAA)
      ≡ refused_with 1 0 (replicate 18 0xAA)
  -- 22 at the section's offset, and 25
  pub previous_version : previous_read (sections_of_at_most 54) (segments_with 0xC5) ≡ previous_refused 22 36
  pub previous_early : previous_read (sections_of_at_most 54) (section 0x50 0 8 0 0x50 []) ≡ previous_refused 25 18
  -- its sections by the sizes of the call: one of 33 bytes where 32 are the most
  pub previous_too_long : previous_read (sections_of_at_most 32) titled_a ≡ previous_refused 20 30
  -- 1, 12, 10 and 11, each before those that follow it
  pub base_first : rebuild_short unsound 65_473 (replicate 5 0xAA) ≡ refused_with 1 0 (replicate 5 0xAA)
  pub unsound_first : rebuild_short unsound 65_472 (replicate 5 0xAA) ≡ refused_with 12 0 (replicate 5 0xAA)
  pub unpackable_first : rebuild_short described 65_472 (replicate 5 0xAA) ≡ refused_with 10 0 (replicate 5 0xAA)
  pub output_short : rebuild_short (plain_events 0 1) 49_273 (replicate 29 0xAA) ≡ refused_with 11 30 (replicate 29 0xAA)
