-- 30 computed, on the list of specs/Examples.antt, whose events are on from 100 to 150 and from 200 to 250 (02, W-204).
-- The value is in proofs/OverlapExamples.antt. Assumes nothing.
use Rattle.std.specs.Prelude.{◌≡◌, [], ◌∷◌, ◌++◌, replicate}
use Rattle.eit.specs.Records.{numbers_of_all}
use Rattle.script.specs.Form.{put, move}
use Rattle.script.specs.Encode.{act_bytes}
use Rattle.script.specs.Examples.{plain, lasting, event_record, result_of, left}

pub record OverlapExamples : Type 0 where
  -- PUT: touching on both sides; a second into the one before, and into the one behind; around both, inside one, and
  -- with its start
  pub touching : result_of (act_bytes (put (plain 3 150))) ≡ (0, 3, 3)
  pub one_second_before : result_of (act_bytes (put (plain 3 149))) ≡ (30, 0, 2)
  pub one_second_behind : result_of (act_bytes (put (plain 3 151))) ≡ (30, 0, 2)
  pub around : result_of (act_bytes (put (lasting 50 400))) ≡ (30, 0, 2)
  pub inside : result_of (act_bytes (put (lasting 110 10))) ≡ (30, 0, 2)
  pub same_start : result_of (act_bytes (put (plain 3 200))) ≡ (30, 0, 2)
  -- MOVE: onto the other's start; a second too far, behind and before; up to touching both its own old time and the
  -- other event; over its own old time; its own duration counts
  pub moved_onto : result_of (act_bytes (move 1 200)) ≡ (30, 0, 2)
  pub moved_one_second : result_of (act_bytes (move 1 151)) ≡ (30, 0, 2)
  pub moved_back : result_of (act_bytes (move 2 149)) ≡ (30, 0, 2)
  pub moved_touching : result_of (act_bytes (move 1 150)) ≡ (0, 2, 2)
  pub moved_over_itself : left (act_bytes (move 1 120)) ≡ numbers_of_all (plain 1 120 ∷ plain 2 200 ∷ []) ++ replicate 8 7
  pub moved_longer : result_of (act_bytes (put (lasting 250 51)) ++ act_bytes (move 3 150)) ≡ (30, 18, 3)
  -- 5, 9 and 6 come before it, 8 behind it: a third event fills the list. MOVE's 5 is shown where an event ends past
  -- the last segment, its 6 by a start within an event. The edits before it stay
  pub range_first : result_of (act_bytes (put (event_record 3 210 8 0))) ≡ (5, 0, 2)
  pub moved_range_first : result_of (act_bytes (put (plain 3 5_529_599)) ++ act_bytes (move 1 5_529_600)) ≡ (5, 18, 3)
  pub chain_first : result_of (act_bytes (put (event_record 3 210 0 2))) ≡ (9, 0, 2)
  pub id_first : (result_of (act_bytes (put (plain 1 210))) ≡ (6, 0, 2)) × (result_of (act_bytes (move 9 210)) ≡ (6, 0, 2))
  pub when_full : result_of (act_bytes (put (plain 3 300)) ++ act_bytes (put (plain 4 200))) ≡ (30, 18, 3)
  pub keeps_the_earlier : left (act_bytes (move 2 300) ++ act_bytes (put (plain 3 301)))
      ≡ numbers_of_all (plain 1 100 ∷ plain 2 300 ∷ []) ++ replicate 8 7
