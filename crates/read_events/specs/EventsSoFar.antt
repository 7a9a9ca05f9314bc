-- What is kept of the events so far: a least start and a set of ids (01, "The file of sections": over the file starts
-- rise strictly, ids differ; 02, W-204: no overlap). Laws: proofs/EventsSoFarLaws.antt. Assumes nothing.
use Rattle.std.specs.Prelude.{◌≡◌, List, [], ◌∷◌, ℕ, length}
use Rattle.eit.specs.Events.{Event, least_behind}
use Rattle.sections.specs.Section.{event_ids}
use Rattle.codec.specs.Seen.{SeenAre}

-- the least start behind some events, of which the latest comes first
abbrev pub least_after : List Event → ℕ
least_after [] = 0
least_after (d ∷ seen) = least_behind d

-- a least start and a set are those of the events so far; the set has a bit for each id
pub record EventsSoFar (least : ℕ) (words : List ℕ) (seen : List Event) : Type 0 where
  pub least_is : least ≡ least_after seen
  pub ids : SeenAre words (event_ids seen)
  pub room : length words ≡ 1024
