-- 01's term: plain machine ("Edit"). Its state is the whole buffer and the count; a number that no command changes
-- stays. Laws: proofs/Placing, Places, Steps, Machine, OwnStart and Frame; claims: NoOverlap.antt, EqualStart.antt.
-- Assumes nothing.
use Rattle.std.specs.Prelude.{ℕ, ◌+◌, ◌-◌, ◌/◌, min, Bool, true, false, not, List, [], ◌∷◌, ◌++◌, ltb, eqb, length}
use Rattle.eit.specs.declared.Sizes.{Sizes}
use Rattle.eit.specs.Limits.{window_seconds}
use Rattle.eit.specs.Overwrite.{overwrite}
use Rattle.eit.specs.Pools.{Pools}
use Rattle.eit.specs.Records.{EventList, record_size, records_of, numbers_of_all}
use Rattle.eit.specs.Among.{is_among}
use Rattle.eit.specs.Overlap.{overlaps_one}
use Rattle.eit.specs.Sound.{in_range, has_chain, ids_of}
use Rattle.eit.specs.declared.Record.{Record}
use Rattle.script.specs.Form.{Act, put, withdraw, move}

-- 01's term: limit. The list's limit is buffer length ÷ 6, rounded down, at most 2,048; 02, W-206: for cable 8 uses 256
abbrev pub limit_of : Sizes → EventList → ℕ
limit_of sizes list = min (length list.buffer / record_size) sizes.event_limit

-- inserted by start, later records moving up
abbrev pub insert : Record → List Record → List Record
insert r [] = r ∷ []
insert r (s ∷ rs) = elim (ltb r.start s.start) [ true ↦ r ∷ s ∷ rs | false ↦ s ∷ insert r rs ]

-- six zeros
abbrev pub zero_record : Record
zero_record = record { id = 0; start = 0; duration = 0; marks = 0; offset = 0; chain_length = 0 }

-- the record of an id, six zeros if it is absent; and the records without it
abbrev pub find : ℕ → List Record → Record
find id [] = zero_record
find id (r ∷ rs) = elim (eqb id r.id) [ true ↦ r | false ↦ find id rs ]

abbrev pub without : ℕ → List Record → List Record
without id [] = []
without id (r ∷ rs) = elim (eqb id r.id) [ true ↦ rs | false ↦ r ∷ without id rs ]

-- a record with another start
abbrev pub with_start : ℕ → Record → Record
with_start start r =
    record {
      id = r.id;
      start = start;
      duration = r.duration;
      marks = r.marks;
      offset = r.offset;
      chain_length = r.chain_length;
    }

-- the record of an id as MOVE leaves it, with its own duration
abbrev pub moved : ℕ → ℕ → List Record → Record
moved id start rs = with_start start (find id rs)

-- the list with some records over the front of its buffer, and a new count; all other numbers stay
abbrev pub written : EventList → List Record → ℕ → EventList
written list rs count = record { buffer = overwrite list.buffer 0 (numbers_of_all rs); count = count }

-- PUT inserts by start, later records moving up
abbrev pub after_put : EventList → Record → EventList
after_put list r = written list (insert r (records_of list)) (list.count + 1)

-- WITHDRAW moves later records down and sets the freed record to six zeros
abbrev pub after_withdraw : EventList → ℕ → EventList
after_withdraw list id = written list (without id (records_of list) ++ (zero_record ∷ [])) (list.count - 1)

-- MOVE changes the start and re-places the record
abbrev pub after_move : EventList → ℕ → ℕ → EventList
after_move list id start =
    let rs = records_of list in
    written list (insert (moved id start rs) (without id rs)) list.count

-- an edit on a list: the list after it, or the number of the first check that fails
pub data Step : Type 0 where
  done : EventList → Step
  refused : ℕ → Step

-- a machine: what it makes of a list by one edit
abbrev pub Machine : Type 0
Machine = EventList → Act → Step

-- a check: if it fails, the edit is refused with its number
abbrev pub check : Bool → ℕ → Step → Step
check true number next = next
check false number next = refused number

-- per edit 5, 9, 6, 30, 8 (01, "When a call says no"; 02, W-204 and W-209): 5 value out of range (PUT, MOVE); 9 part
-- outside pool, or no chain (PUT); 6 id present (PUT), absent (others); 30 "a PUT or MOVE that would overlap another
-- event"; 8 list at its limit (PUT)
unfoldable pub step : Sizes → Pools → Machine
step sizes pools list (put r) =
    let rs = records_of list in
    check (in_range r) 5
    (check (has_chain pools r) 9
    (check (not (is_among r.id (ids_of rs))) 6
    (check (not (overlaps_one r rs)) 30
    (check (ltb list.count (limit_of sizes list)) 8 (done (after_put list r))))))
step sizes pools list (withdraw id) =
    check (is_among id (ids_of (records_of list))) 6 (done (after_withdraw list id))
step sizes pools list (move id start) =
    let rs = records_of list in
    check (ltb start window_seconds) 5
    (check (is_among id (ids_of rs)) 6
    (check (not (overlaps_one (moved id start rs) (without id rs))) 30 (done (after_move list id start))))
