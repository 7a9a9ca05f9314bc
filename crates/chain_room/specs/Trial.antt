-- Whether an event with a chain of some length is held between the events before its place and those behind it, and how
-- many lengths, from 0 on, are. Laws: proofs/TrialLaws.antt. Assumes nothing.
use Rattle.std.specs.Prelude.{ℕ, zero, suc, ◌+◌, ◌-◌, Bool, List, Option, Some, None, is_some}
use Rattle.eit.specs.Events.{Event}
use Rattle.packing.specs.declared.Filling.{Filling}
use Rattle.packing.specs.OnePass.{begun, added_to, filled}
use Rattle.sections.specs.Section.{event_overhead, event_size}
use Rattle.room.specs.ChainRoom.{largest}

-- the pass has come to `before`, and goes on over the event and those behind it
abbrev pub holds : ℕ → Option Filling → List Event → ℕ → Bool
holds room before behind n = is_some (filled event_size room (added_to room before (event_overhead + n)) behind)

-- the last of so many lengths
abbrev pub last_of : ℕ → Option ℕ
last_of zero = None
last_of (suc n) = Some n

-- the longest chain of one more event between events of its segment: one section is begun, and seven may follow
abbrev pub longest_between : ℕ → List Event → List Event → Option ℕ
longest_between room before behind =
    largest (holds room (filled event_size room (Some (begun room 7)) before) behind) (room - event_overhead)
