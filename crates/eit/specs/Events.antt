-- Events: what a record stands for, apart from where its chain lies (01, "Event record and sound list"). Laws:
-- proofs/Events.antt, proofs/SameEvent.antt. Assumes nothing.
use Rattle.std.specs.Prelude.{◌≡◌, ℕ, ◌+◌, ◌*◌, ◌/◌, ◌%◌, max, Bool, true, ◌&&◌, List, [], ◌∷◌, map, leb, ltb}
use Rattle.eit.specs.Pools.{Pools, choose, marks_free_ca, marks_off_air}
use Rattle.eit.specs.declared.Record.{Record}

-- what a record stands for; two records are the same event exactly if their events are equal (`same_event`)
pub record Event : Type 0 where
  pub id : ℕ
  pub start : ℕ
  pub duration : ℕ
  pub off_air : Bool
  pub free_ca : Bool
  pub chain : List ℕ

-- the event of a record whose chain is given
abbrev pub event_with : Record → List ℕ → Event
event_with r chain =
    record {
      id = r.id;
      start = r.start;
      duration = r.duration;
      off_air = marks_off_air r.marks;
      free_ca = marks_free_ca r.marks;
      chain = chain;
    }

-- the chain is the part that the record chooses
abbrev pub event_of : Pools → Record → Event
event_of pools r = event_with r (choose pools r.marks r.offset r.chain_length)

-- marks with 2 taken out
abbrev pub marks_other : ℕ → ℕ
marks_other marks = marks / 4 * 4 + marks % 2

-- 01's term: same event. Events are the same if id, start, duration, marks other than 2 and chain bytes are equal
pub record Same (p q : Pools) (r s : Record) : Type 0 where
  pub id : r.id ≡ s.id
  pub start : r.start ≡ s.start
  pub duration : r.duration ≡ s.duration
  pub marks : marks_other r.marks ≡ marks_other s.marks
  pub chain : choose p r.marks r.offset r.chain_length ≡ choose q s.marks s.offset s.chain_length

-- as many records, each the same event as the other list's record in that place
abbrev pub AllSame : Pools → Pools → List Record → List Record → Type 0
AllSame p q [] [] = Unit {0}
AllSame p q [] (s ∷ ss) = ⊥
AllSame p q (r ∷ rs) [] = ⊥
AllSame p q (r ∷ rs) (s ∷ ss) = Same p q r s × AllSame p q rs ss

-- the events of some records
abbrev pub events_in : Pools → List Record → List Event
events_in pools rs = map (event_of pools) rs

-- the second event may follow the first: starts rise strictly, and (02, W-204) each event's start + duration is at most
-- the next event's start; touching is legal
unfoldable pub follows : Event → Event → Bool
follows first second = ltb first.start second.start && leb (first.start + first.duration) second.start

-- the least start that may follow an event: `follows_least`
unfoldable pub least_behind : Event → ℕ
least_behind e = e.start + max 1 e.duration

-- each event but the first follows the one before it
abbrev pub rising : List Event → Bool
rising [] = true
rising (e ∷ []) = true
rising (e ∷ f ∷ es) = follows e f && rising (f ∷ es)
