-- The pass that keeps a least start and a set of ids decides as 24 does, which looks back at the events themselves: the
-- least start is that behind the latest event, and the set holds the ids of all (`EventsSoFar`). Assumes nothing.
use mathlib.Core.Path.{◌≡◌, refl, sym, ap, subst, ◌∙◌}
use mathlib.Core.Logic.{⊎_elim}
use mathlib.Core.Bool.{not, ◌&&◌}
use mathlib.Core.List.{List, [], ◌∷◌, ◌++◌, map, flatten, reverse, reverse-cons, append_assoc}
use Prim.Native.Nat.{ℕ, ◌+◌, ◌-◌, ◌<◌}
use native.Mathlib.Omega.{arith}
use borrow.Author.Tests.{le-leb}
use lib.Dec.{T, leb}
use lib.ListN.{length, drop, replicate, length-replicate}
use Rattle.eit.specs.Sizes.{section_overhead}
use Rattle.eit.specs.Fields.{Bytes}
use Rattle.eit.specs.Events.{Event, least_behind}
use Rattle.eit.proofs.Fields.{bytes_parts, bytes_take, bytes_drop}
use Rattle.eit.proofs.Test.{and_left, and_right, and_both, true_is, false_is, test_or, both_ways}
use Rattle.eit.proofs.Events.{follows_least}
use Rattle.sections.specs.Section.{Header, header_size, event_ids}
use Rattle.sections.specs.Decode.{stated_event_size, event_in, header_in, event_loop, split_events}
use Rattle.sections.specs.Split.{split_by}
use Rattle.sections.specs.EventTests.{is_event, are_events, is_filled_or_alone, is_new, are_new, is_event_loop}
use Rattle.sections.proofs.EventBytes.{event_forth}
use Rattle.sections.proofs.Split.{split_joined}
use Rattle.codec.specs.Seen.{is_seen, with_seen}
use Rattle.codec.proofs.SeenLaws.{seen_empty, seen_more, seen_length}
use Rattle.read_events.specs.EventPass.{EventPass, is_taken, take_events, checked_events}
use Rattle.read_events.specs.EventsSoFar.{EventsSoFar}
use Rattle.read_events.proofs.EventPassLaws.{take_none, take_more, take_stops}

pub so_far_start : EventsSoFar 0 (replicate 1024 0) []
so_far_start = record { least_is = refl; ids = seen_empty 1024; room = length-replicate {A = ℕ} 1024 0 }

-- one event
module _ {least : ℕ} {words : List ℕ} (e : Event) (id : e.id < 65_536) where
  so_far_new : (seen : List Event) → EventsSoFar least words seen
      → (leb least e.start && not (is_seen words e.id)) ≡ is_new seen e
  so_far_new [] kept =
      rw (kept.least_is, le-leb 0 e.start (omega arith), kept.ids e.id (omega (arith, kept.room)))
  so_far_new (d ∷ seen) kept = rw (kept.least_is, follows_least d e, kept.ids e.id (omega (arith, kept.room)))

  so_far_more : {seen : List Event} → EventsSoFar least words seen
      → EventsSoFar (least_behind e) (with_seen words e.id) (e ∷ seen)
  so_far_more {seen} kept = record {
    least_is = refl;
    ids = seen_more words (event_ids seen) e.id kept.ids (omega (arith, kept.room));
    room = seen_length words e.id ∙ kept.room;
  }

latest_first : (e : Event) (es seen : List Event) → reverse es ++ (e ∷ seen) ≡ reverse (e ∷ es) ++ seen
latest_first e es seen =
    sym (ap (λ (l : List Event). l ++ seen) (reverse-cons e es) ∙ append_assoc (reverse es) (e ∷ []) seen)

-- the pieces of an event loop
module _ (base : ℕ) (h : Header) where
  -- an event that passes has an id of two bytes
  id_below : (bs : List ℕ) → Bytes bs → T (is_event base h bs) → (event_in base bs).id < 65_536
  id_below bs bytes t = omega (arith, (event_forth base h bs bytes t).1.id)

  -- what a pass that takes all pieces has kept
  pub record Taken (n : ℕ) (pieces : List (List ℕ)) (seen : List Event) (pass : EventPass) : Type 0 where
    pub are : T (are_events base h pieces)
    pub new : T (are_new seen (map (event_in base) pieces))
    pub events : pass.events ≡ n + length pieces
    pub kept : EventsSoFar pass.least pass.words (reverse (map (event_in base) pieces) ++ seen)

  take_forth : (n : ℕ) {least : ℕ} {words : List ℕ} (pieces : List (List ℕ)) (seen : List Event)
      → Bytes (flatten pieces)
      → EventsSoFar least words seen → T (take_events base h n least words pieces).keeps_rules
      → Taken n pieces seen (take_events base h n least words pieces)
  unfolding flatten
  take_forth n {least} {words} [] seen bytes kept whole =
      subst (Taken n [] seen) (sym (take_none base h n least words))
      (record { are = tt; new = tt; events = omega arith; kept = kept })
  take_forth n {least} {words} (bs ∷ rest) seen bytes kept whole =
      let e : Event = event_in base bs in
      let (front, behind) = bytes_parts bs (flatten rest) bytes in
      ⊎_elim
      (λ (taken : T (is_taken base h least words bs)).
      let goes_on = take_more base h n least words bs rest (true_is _ taken) in
      let event : T (is_event base h bs) = and_left (is_event base h bs) _ taken in
      let id = id_below bs front event in
      let new : T (is_new seen e) = subst T (so_far_new e id seen kept) (and_right (is_event base h bs) _ taken) in
      let others =
      take_forth (n + 1) rest (e ∷ seen) behind (so_far_more e id kept)
      (subst (λ (p : EventPass). T p.keeps_rules) goes_on whole) in
      subst (Taken n (bs ∷ rest) seen) (sym goes_on)
      (record {
        are = and_both (is_event base h bs) (are_events base h rest) event others.are;
        new = and_both (is_new seen e) (are_new (e ∷ seen) (map (event_in base) rest)) new others.new;
        events = omega (arith, others.events);
        kept = subst (EventsSoFar _ _) (latest_first e (map (event_in base) rest) seen) others.kept;
      }))
      (λ (left : T (not (is_taken base h least words bs))).
      absurd (subst (λ (p : EventPass). T p.keeps_rules) (take_stops base h n least words bs rest (false_is _ left))
      whole))
      (test_or (is_taken base h least words bs))

  take_back : (n : ℕ) {least : ℕ} {words : List ℕ} (pieces : List (List ℕ)) (seen : List Event) → Bytes (flatten pieces)
      → EventsSoFar least words seen → T (are_events base h pieces) → T (are_new seen (map (event_in base) pieces))
      → T (take_events base h n least words pieces).keeps_rules
  unfolding flatten
  take_back n {least} {words} [] seen bytes kept are new = rw (take_none base h n least words) tt
  take_back n {least} {words} (bs ∷ rest) seen bytes kept are new =
      let e : Event = event_in base bs in
      let (front, behind) = bytes_parts bs (flatten rest) bytes in
      let event : T (is_event base h bs) = and_left (is_event base h bs) (are_events base h rest) are in
      let id = id_below bs front event in
      let first : T (is_new seen e) = and_left (is_new seen e) _ new in
      let taken : T (is_taken base h least words bs) =
      and_both (is_event base h bs) _ event (subst T (sym (so_far_new e id seen kept)) first) in
      rw (take_more base h n least words bs rest (true_is _ taken))
      (take_back (n + 1) rest (e ∷ seen) behind (so_far_more e id kept)
      (and_right (is_event base h bs) (are_events base h rest) are)
      (and_right (is_new seen e) _ new))

-- a section's event loop
module _ (base : ℕ) (bs : List ℕ) (bytes : Bytes bs) {least : ℕ} {words : List ℕ} (seen : List Event)
    (kept : EventsSoFar least words seen) where
  abbrev loop : List (List ℕ)
  loop = split_by stated_event_size (event_loop bs)

  loop_bytes : Bytes (flatten loop)
  loop_bytes =
      subst Bytes (sym (split_joined stated_event_size (λ piece. omega arith) (event_loop bs)))
      (bytes_take (length bs - section_overhead) (drop header_size bs) (bytes_drop header_size bs bytes))

  abbrev taking : EventPass
  taking = take_events base (header_in bs) 0 least words loop

  abbrev pass : EventPass
  pass = checked_events base (header_in bs) least words loop

  pub loop_checked : pass.keeps_rules ≡ is_event_loop base seen bs
  unfolding is_event_loop split_events
  loop_checked =
      both_ways pass.keeps_rules (is_event_loop base seen bs)
      (λ whole.
      let taken = take_forth base (header_in bs) 0 loop seen loop_bytes kept (and_left taking.keeps_rules _ whole) in
      and_both (are_events base (header_in bs) loop) _ taken.are
      (and_both (is_filled_or_alone (header_in bs) loop) _ (and_right taking.keeps_rules _ whole) taken.new))
      (λ holds.
      let rest = and_right (are_events base (header_in bs) loop) _ holds in
      and_both taking.keeps_rules (is_filled_or_alone (header_in bs) loop)
      (take_back base (header_in bs) 0 loop seen loop_bytes kept (and_left (are_events base (header_in bs) loop) _ holds)
      (and_right (is_filled_or_alone (header_in bs) loop) _ rest))
      (and_left (is_filled_or_alone (header_in bs) loop) _ rest))

  pub loop_so_far : T pass.keeps_rules
      → (pass.events ≡ length (split_events bs))
      × EventsSoFar pass.least pass.words (reverse (map (event_in base) (split_events bs)) ++ seen)
  unfolding split_events
  loop_so_far whole =
      let taken = take_forth base (header_in bs) 0 loop seen loop_bytes kept (and_left taking.keeps_rules _ whole) in
      (omega (arith, taken.events), taken.kept)
