-- A pass over a section's events that keeps the least start that the next event may have, and the ids so far as a set
-- (01, "The file of sections": over the file starts rise strictly, ids differ; 02, W-204: no overlap). Laws:
-- proofs/EventPassLaws.antt, proofs/EventsSoFarLaws.antt. Assumes nothing.
use Rattle.std.specs.Prelude.{ℕ, ◌+◌, Bool, true, false, not, ◌&&◌, List, [], ◌∷◌, leb, Result, Ok, Err}
use Rattle.eit.specs.Events.{least_behind}
use Rattle.sections.specs.Section.{Header}
use Rattle.sections.specs.Decode.{event_in}
use Rattle.sections.specs.EventTests.{is_event, is_filled_or_alone}
use Rattle.codec.specs.Seen.{is_seen, with_seen}
use Rattle.read_events.specs.declared.EventsPassed.{EventsPassed}

-- what a pass returns, and the set of ids after it
pub record EventPass : Type 0 where
  pub keeps_rules : Bool
  pub events : ℕ
  pub least : ℕ
  pub words : List ℕ

-- an event of the section that does not start before `least`, with an id that is not in the set
abbrev pub is_taken : ℕ → Header → ℕ → List ℕ → List ℕ → Bool
is_taken base h least words bs =
    is_event base h bs && (leb least (event_in base bs).start && not (is_seen words (event_in base bs).id))

-- the pass over the pieces of an event loop, with n events behind it; it ends at the first that is not taken
unfoldable pub take_events : ℕ → Header → ℕ → ℕ → List ℕ → List (List ℕ) → EventPass
take_events base h n least words [] = record { keeps_rules = true; events = n; least = least; words = words }
take_events base h n least words (bs ∷ rest) =
    elim (is_taken base h least words bs) [
      | true ↦ take_events base h (n + 1) (least_behind (event_in base bs)) (with_seen words (event_in base bs).id) rest
      | false ↦ record { keeps_rules = false; events = n; least = least; words = words }
    ]

-- 24: the pass over all pieces, and a section without events is alone in its segment
abbrev pub checked_events : ℕ → Header → ℕ → List ℕ → List (List ℕ) → EventPass
checked_events base h least words pieces =
    let pass = take_events base h 0 least words pieces in
    record {
      keeps_rules = pass.keeps_rules && is_filled_or_alone h pieces;
      events = pass.events;
      least = pass.least;
      words = pass.words;
    }

-- what the code returns, and the set of ids after it
abbrev pub pass_of : Result EventsPassed EventsPassed → List ℕ → EventPass
pass_of (Ok p) words = record { keeps_rules = true; events = p.count; least = p.least; words = words }
pass_of (Err p) words = record { keeps_rules = false; events = p.count; least = p.least; words = words }
