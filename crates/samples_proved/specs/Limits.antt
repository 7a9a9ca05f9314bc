-- Build and Plan at broadcast's limits, where document 01 has no sample marked P. Gaps, cuts and answers are
-- computed on short lists in crate schedule. The value is in proofs/Limits.antt. Assumes nothing.
use Rattle.std.specs.Prelude.{◌*◌, ◌≡◌, [], ◌∷◌, replicate}
use Rattle.eit.specs.Sizes.{broadcast}
use Rattle.eit.specs.Records.{record_size}
use Rattle.sections.specs.Exact.{accepted_numbers}
use Rattle.schedule.specs.ExampleLists.{plain_events}
use Rattle.schedule.specs.ExampleCalls.{padded}
use Rattle.samples_proved.specs.SampleLists.{overlong, overlong_later}
use Rattle.samples_proved.specs.SampleCalls.{build_of, answer, plan_of, cuts}

pub record Limits : Type 0 where
  -- Read's record buffer in the demands, which the largest list fills
  pub record_buffer : (accepted_numbers ≡ 12_288) × (broadcast.event_limit * record_size ≡ accepted_numbers)
  -- three sections in a segment, the first two full
  pub three_cuts : cuts (plain_events 0 679) ≡ (0x50, 0, 339) ∷ (0x50, 1, 339) ∷ (0x50, 2, 1) ∷ []
  -- an unpackable segment after one that is not
  pub later_plan : plan_of overlong_later ≡ padded ((1 ∷ []) ∷ (1 ∷ 255 ∷ []) ∷ [])
  pub later_build : answer overlong_later ≡ record { number = 10; value = 33; output = [] }
  -- whatever the output
  pub unpackable :
      build_of overlong 49_273 0 (replicate 9_999 0xAA)
      ≡ record { number = 10; value = 33; output = replicate 9_999 0xAA }
