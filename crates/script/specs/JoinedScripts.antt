-- What 02, W-214 ("Scripts joined"), claims of Edit, for every sizes. The values are in proofs/JoinedScripts.antt.
-- Assumes nothing.
use Rattle.std.specs.Prelude.{◌≡◌, ℕ, ◌+◌, List, [], ◌∷◌, ◌++◌, T, length, replicate}
use Rattle.eit.specs.declared.Sizes.{Sizes}
use Rattle.eit.specs.Sizes.{broadcast}
use Rattle.eit.specs.Pools.{Pools}
use Rattle.eit.specs.Records.{EventList, records_of, numbers_of_all}
use Rattle.eit.specs.Among.{is_among}
use Rattle.eit.specs.Sound.{ids_of, sound}
use Rattle.script.specs.Form.{put, withdraw}
use Rattle.script.specs.Encode.{act_bytes}
use Rattle.script.specs.Edit.{Edited, refusal, edit}
use Rattle.script.specs.Examples.{plain, event_record, pools, list, undo_byte, answer_of, result_of, left}

-- the second script on the outcome of the first, with the same pools
abbrev pub in_turn : Sizes → Pools → EventList → List ℕ → List ℕ → Edited
in_turn sizes pools list first second = edit sizes pools (edit sizes pools list first).list second

-- the script of one withdrawal
abbrev pub withdrawal : ℕ → List ℕ
withdrawal id = act_bytes (withdraw id)

-- two withdrawals, as one script and as two calls, in either order: accepted, with one outcome
pub record EitherOrder (sizes : Sizes) (pools : Pools) (list : EventList) (a b : ℕ) : Type 0 where
  pub a_accepted : (edit sizes pools list (withdrawal a)).number ≡ 0
  pub b_accepted : (edit sizes pools list (withdrawal b)).number ≡ 0
  pub both_accepted : (edit sizes pools list (withdrawal a ++ withdrawal b)).number ≡ 0
  pub one_script : edit sizes pools list (withdrawal b ++ withdrawal a)
      ≡ edit sizes pools list (withdrawal a ++ withdrawal b)
  pub a_then_b : in_turn sizes pools list (withdrawal a) (withdrawal b)
      ≡ edit sizes pools list (withdrawal a ++ withdrawal b)
  pub b_then_a : in_turn sizes pools list (withdrawal b) (withdrawal a)
      ≡ edit sizes pools list (withdrawal a ++ withdrawal b)

pub record JoinedScripts : Type 0 where
  -- "For every sound list, if Edit accepts the first script and then the second on the outcome, with the same pools,
  -- the joined script is accepted on the original list and gives the same buffer and count": the same outcome, so
  -- number 0, value, count and every number of the buffer. A list on which Edit accepts a script is sound
  pub joined : (sizes : Sizes) (pools : Pools) (list : EventList) (first second : List ℕ)
      → (edit sizes pools list first).number ≡ 0
      → let o = in_turn sizes pools list first second in
      o.number ≡ 0 → edit sizes pools list (first ++ second) ≡ o
  -- where an edit of the second is refused, with 5, 9, 6, 30 or 8, the same edit of the joined script is, and leaves
  -- the same; its offset there counts from the front of the first
  pub refused_alike : (sizes : Sizes) (pools : Pools) (list : EventList) (first second : List ℕ)
      → (edit sizes pools list first).number ≡ 0
      → let o = in_turn sizes pools list first second in
      (o.number ≡ 0 → ⊥) → (o.number ≡ 3 → ⊥) → (o.number ≡ 4 → ⊥)
      → edit sizes pools list (first ++ second) ≡ refusal o.number (length first + o.value) o.list
  -- where the second is refused with 3, the joined script is, too: 3 is over the script, and leaves the original list
  pub broken_alike : (sizes : Sizes) (pools : Pools) (list : EventList) (first second : List ℕ)
      → (edit sizes pools list first).number ≡ 0
      → let o = in_turn sizes pools list first second in
      o.number ≡ 3 → edit sizes pools list (first ++ second) ≡ refusal 3 (length first + o.value) list
  -- "Two withdrawals of different present ids give the same buffer in either order"
  pub withdrawals : (sizes : Sizes) (pools : Pools) (list : EventList) (a b : ℕ) → T (sound sizes pools list)
      → T (is_among a (ids_of (records_of list))) → T (is_among b (ids_of (records_of list))) → (a ≡ b → ⊥)
      → EitherOrder sizes pools list a b

-- number, value and count of the second script's answer, on the list of specs/Examples.antt
abbrev in_turn_result : List ℕ → List ℕ → ℕ × ℕ × ℕ
in_turn_result first second = answer_of (in_turn broadcast pools (list 2) first second)

abbrev put3 : List ℕ
put3 = act_bytes (put (plain 3 150))

-- the same with a descriptor of the day pool
abbrev describe3 : List ℕ
describe3 = act_bytes (put (event_record 3 150 0 3))

abbrev no_pools : Pools
no_pools = record { day = []; series = [] }

-- computed: what is not claimed, and why the claims ask what they ask
pub record JoinedScriptsExamples : Type 0 where
  -- the converse is false: a PUT, then an UNDO alone. Joined they are accepted, and the list is as it was; in turn the
  -- UNDO has nothing to strike, and the PUT stands
  pub undo_joined : (result_of (put3 ++ undo_byte) ≡ (0, 2, 2)) × (left (put3 ++ undo_byte) ≡ (list 2).buffer)
  pub undo_in_turn : (result_of put3 ≡ (0, 3, 3)) × (in_turn_result put3 undo_byte ≡ (4, 0, 3))
  -- the first script must be accepted: an edit that is refused there is in the joined script, too, unless an UNDO of
  -- the second strikes it; and a truncated command takes the second script's bytes as operands
  pub first_refused : (in_turn_result (withdrawal 9) (withdrawal 1) ≡ (0, 1, 1))
      × (result_of (withdrawal 9 ++ withdrawal 1) ≡ (6, 0, 2))
  pub first_struck : (result_of (withdrawal 9) ≡ (6, 0, 2)) × (result_of (withdrawal 9 ++ undo_byte) ≡ (0, 2, 2))
  pub first_truncated : (result_of (0x02 ∷ 0 ∷ []) ≡ (3, 0, 2)) × (result_of ((0x02 ∷ 0 ∷ []) ++ (0x02 ∷ [])) ≡ (0, 1, 1))
  -- an edit of the second that is refused, and a second without a form
  pub second_refused : (in_turn_result put3 (withdrawal 9) ≡ (6, 0, 3)) × (result_of (put3 ++ withdrawal 9) ≡ (6, 18, 3))
  pub second_broken : (in_turn_result put3 (0x05 ∷ []) ≡ (3, 0, 3)) × (result_of (put3 ++ (0x05 ∷ [])) ≡ (3, 18, 2))
  -- the pools must be the same: an event with a descriptor, in turn and joined; put behind a withdrawal that other
  -- pools were lent with, and joined with those
  pub same_pools : (in_turn_result (withdrawal 1) describe3 ≡ (0, 2, 2)) × (in_turn_result describe3 (withdrawal 1) ≡ (0, 2, 2))
  pub other_pools : (answer_of (edit broadcast no_pools (list 2) (withdrawal 1)) ≡ (0, 1, 1))
      × (answer_of (edit broadcast no_pools (list 2) (withdrawal 1 ++ describe3)) ≡ (9, 3, 1))
  -- two withdrawals in either order: event 3 is left, and behind it two records of zeros
  pub either_order :
      (left (put3 ++ withdrawal 1 ++ withdrawal 2) ≡ numbers_of_all (plain 3 150 ∷ []) ++ replicate 12 0 ++ (7 ∷ 7 ∷ []))
      × (left (put3 ++ withdrawal 2 ++ withdrawal 1)
      ≡ numbers_of_all (plain 3 150 ∷ []) ++ replicate 12 0 ++ (7 ∷ 7 ∷ []))
  -- the ids must be present, and different
  pub absent_id : (result_of (withdrawal 1 ++ withdrawal 9) ≡ (6, 3, 1))
      × (result_of (withdrawal 9 ++ withdrawal 1) ≡ (6, 0, 2))
  pub same_id : result_of (withdrawal 1 ++ withdrawal 1) ≡ (6, 3, 1)
