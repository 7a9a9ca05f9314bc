-- What 02, W-209 ("One message fewer for operators"), claims of Edit, for every sizes. The values are
-- in proofs/EqualStart.antt. Assumes nothing.
use Rattle.std.specs.Prelude.{◌≡◌, Bool, false, not, ℕ, ◌≤◌, List, [], ◌∷◌, T, ltb}
use Rattle.eit.specs.declared.Sizes.{Sizes}
use Rattle.eit.specs.Sizes.{broadcast}
use Rattle.eit.specs.Limits.{window_seconds}
use Rattle.eit.specs.Pools.{Pools}
use Rattle.eit.specs.Records.{EventList, records_of}
use Rattle.eit.specs.Among.{is_among}
use Rattle.eit.specs.Overlap.{overlap, overlaps_one}
use Rattle.eit.specs.Sound.{in_range, has_chain, ids_of, starts_of, sound}
use Rattle.eit.specs.declared.Record.{Record}
use Rattle.script.specs.Form.{Act, put, withdraw, move}
use Rattle.script.specs.Machine.{limit_of, without, moved, after_put, after_withdraw, after_move}
use Rattle.script.specs.Machine.{Machine, Step, done, refused, check, step}
use Rattle.script.specs.Edit.{edit_by, edit}
use Rattle.script.specs.NoOverlap.{PassesBefore}
use Rattle.script.specs.Encode.{act_bytes}
use Rattle.script.specs.Examples.{plain, pools, list}

-- 01, "When a call says no", 7: start of another event; of MOVE, of one of the others
abbrev pub start_of_another : EventList → Act → Bool
start_of_another list (put r) = is_among r.start (starts_of (records_of list))
start_of_another list (withdraw id) = false
start_of_another list (move id start) = is_among start (starts_of (without id (records_of list)))

-- the plain machine with 7 behind 30, as document 01 and W-204 have it: 5, 9, 6, 30, 7, 8
unfoldable pub step_with7 : Sizes → Pools → Machine
step_with7 sizes pools list (put r) =
    let rs = records_of list in
    check (in_range r) 5
    (check (has_chain pools r) 9
    (check (not (is_among r.id (ids_of rs))) 6
    (check (not (overlaps_one r rs)) 30
    (check (not (start_of_another list (put r))) 7
    (check (ltb list.count (limit_of sizes list)) 8 (done (after_put list r)))))))
step_with7 sizes pools list (withdraw id) =
    check (is_among id (ids_of (records_of list))) 6 (done (after_withdraw list id))
step_with7 sizes pools list (move id start) =
    let rs = records_of list in
    check (ltb start window_seconds) 5
    (check (is_among id (ids_of rs)) 6
    (check (not (overlaps_one (moved id start rs) (without id rs))) 30
    (check (not (start_of_another list (move id start))) 7 (done (after_move list id start)))))

pub record EqualStart : Type 0 where
  -- "Since durations are at least 1, an equal start is an overlap"
  pub overlaps : (r s : Record) → 1 ≤ r.duration → 1 ≤ s.duration → r.start ≡ s.start → T (overlap r s)
  -- "and 30 comes first"
  pub thirty_first : (sizes : Sizes) (pools : Pools) (list : EventList) → T (sound sizes pools list) → (a : Act)
      → PassesBefore pools list a → T (start_of_another list a) → step sizes pools list a ≡ refused 30
  -- "Show that 7 is never given": Edit with it is Edit, whatever list, pools and script are
  pub adds_nothing : (sizes : Sizes) (pools : Pools) (list : EventList) (script : List ℕ)
      → edit_by (step_with7 sizes pools) sizes pools list script ≡ edit sizes pools list script
  pub never_given : (sizes : Sizes) (pools : Pools) (list : EventList) (script : List ℕ)
      → (edit sizes pools list script).number ≡ 7 → ⊥

-- a full list of an event from 200 to 250 between two, at 100 and at 300, that last no second, as in no sound list
abbrev no_second : EventList
no_second =
    record {
      buffer =
          1 ∷ 100 ∷ 0 ∷ 0 ∷ 0 ∷ 0 ∷
          2 ∷ 200 ∷ 50 ∷ 0 ∷ 0 ∷ 0 ∷
          3 ∷ 300 ∷ 0 ∷ 0 ∷ 0 ∷ 0 ∷ [];
      count = 3;
    }

abbrev says : Act → Step
says a = step_with7 broadcast pools no_second a

-- that machine on it, computed: 7 comes of PUT and MOVE, behind 30 and before 8; MOVE may keep its own start. And Edit
-- says what its machine says
pub record EqualStartExamples : Type 0 where
  pub put_first : says (put (plain 4 100)) ≡ refused 7
  pub put_last : says (put (plain 4 300)) ≡ refused 7
  pub put_overlap : says (put (plain 4 200)) ≡ refused 30
  pub move_first : says (move 2 100) ≡ refused 7
  pub move_last : says (move 2 300) ≡ refused 7
  pub move_own : says (move 1 100) ≡ done no_second
  pub by_machine : (edit_by (λ l a. refused 7) broadcast pools (list 2) (act_bytes (withdraw 1))).number ≡ 7
