-- One pass over a list's records with the ids kept in words of 64 bits: where it stands before a record, what the next
-- record decides, and what its end says. The words hold just the ids seen, so their test is that of `sound_from`.
-- Assumes nothing.
use mathlib.Core.Path.{◌≡◌, refl, sym, ap, subst, ◌∙◌}
use mathlib.Core.Logic.{⊎_elim}
use mathlib.Core.Bool.{Bool, true, false, not, ◌&&◌}
use Prim.Native.Nat.{ℕ, suc, ◌+◌, ◌*◌, ◌≤◌, ◌<◌}
use native.Mathlib.Numerals.{add-one}
use native.Mathlib.Omega.{arith}
use mathlib.Core.List.{List, [], ◌∷◌}
use lib.Dec.{T, leb}
use lib.ListN.{length, drop, replicate, length-replicate}
use Rattle.eit.specs.Pools.{Pools}
use Rattle.eit.specs.Records.{record_size, front_record, records_in}
use Rattle.eit.specs.Events.{event_with, event_of, least_behind}
use Rattle.eit.specs.Sound.{in_range, has_chain}
use Rattle.eit.specs.declared.Record.{Record}
use Rattle.eit.proofs.Test.{and_left, test_or, false_is}
use Rattle.eit.proofs.Events.{least_same}
use Rattle.eit.proofs.Sound.{range_facts}
use Rattle.codec.specs.Seen.{is_seen, with_seen, SeenAre}
use Rattle.codec.proofs.SeenLaws.{seen_length, seen_empty, seen_more}
use Rattle.list_sound.specs.Forward.{may_follow, sound_from}
use Rattle.list_records.proofs.RestLaws.{records_from_holds, records_end}

-- what the pass tests of the next record
abbrev pub may_follow_by : Pools → List ℕ → ℕ → Record → Bool
may_follow_by pools words least r =
    in_range r && (has_chain pools r && (leb least r.start && not (is_seen words r.id)))

-- where the pass stands before record i: the words, with a bit for each id in range, hold the ids of the records
-- passed, and all records are sound exactly if those from i on may stand behind these
pub record Pass (pools : Pools) (d : List ℕ) (count : ℕ) (words : List ℕ) (least i : ℕ) : Type 0 where
  pub within : i ≤ count
  pub size : length words ≡ 1024
  pub ids : List ℕ
  pub held : SeenAre words ids
  pub decided : sound_from pools [] 0 (records_in count d) ≡ sound_from pools ids least (drop i (records_in count d))

pub pass_start : (pools : Pools) (d : List ℕ) (count : ℕ) → Pass pools d count (replicate 1024 0) 0 0
pass_start pools d count =
    record {
      within = omega arith;
      size = length-replicate {A = ℕ} 1024 0;
      ids = [];
      held = seen_empty 1024;
      decided = refl;
    }

module _ {pools : Pools} {d : List ℕ} {count : ℕ} {words : List ℕ} {least i : ℕ}
    (p : Pass pools d count words least i) where
  pub pass_end : count ≤ i → sound_from pools [] 0 (records_in count d) ≡ true
  pass_end h = p.decided ∙ ap (sound_from pools p.ids least) (records_end count d i h)

  -- the next record is tested
  module _ (r : Record) (h : i < count) (e : r ≡ front_record (drop (i * record_size) d)) where
    -- for an id in range the test of the words is that of the ids seen
    same_test : may_follow_by pools words least r ≡ may_follow pools p.ids least r
    same_test =
        ⊎_elim
        (λ t. let inside : r.id < 64 * length words = omega (arith, (range_facts r t).id, p.size) in
        rw (p.held r.id inside))
        (λ t. rw (false_is (in_range r) t))
        (test_or (in_range r))

    next_decides : sound_from pools [] 0 (records_in count d)
        ≡ (may_follow_by pools words least r
        && sound_from pools (r.id ∷ p.ids) (least_behind (event_of pools r)) (drop (suc i) (records_in count d)))
    next_decides =
        let split : drop i (records_in count d) ≡ r ∷ drop (suc i) (records_in count d) =
        rw e (records_from_holds count d i h) in
        rw same_test (p.decided ∙ ap (sound_from pools p.ids least) split)

    pub pass_stop : may_follow_by pools words least r ≡ false → sound_from pools [] 0 (records_in count d) ≡ false
    pass_stop f = rw f at next_decides

    pub pass_more : may_follow_by pools words least r ≡ true → {more : List ℕ} → more ≡ with_seen words r.id
        → {next : ℕ} → next ≡ least_behind (event_with r []) → Pass pools d count more next (i + 1)
    pass_more t m n =
        let range : T (in_range r) = and_left (in_range r) _ (subst T (sym t) tt) in
        record {
          within = omega arith;
          size = ap length m ∙ seen_length words r.id ∙ p.size;
          ids = r.id ∷ p.ids;
          held = rw m (seen_more words p.ids r.id p.held (omega (arith, (range_facts r range).id, p.size)));
          decided = rw (n ∙ least_same (event_with r []) (event_of pools r) refl refl, add-one i) (rw t at next_decides);
        }
