-- Soundness of records looked at one after the other: the ids seen so far, and the least start that the next may have.
-- `forward_sound` of proofs/ForwardLaws.antt says that it is what soundness asks of the records. Assumes nothing.
use Rattle.std.specs.Prelude.{ℕ, Bool, true, not, ◌&&◌, List, [], ◌∷◌, leb}
use Rattle.eit.specs.Pools.{Pools}
use Rattle.eit.specs.Among.{is_among}
use Rattle.eit.specs.Events.{event_of, least_behind}
use Rattle.eit.specs.Sound.{in_range, has_chain}
use Rattle.eit.specs.declared.Record.{Record}

-- the next record may stand behind those seen
abbrev pub may_follow : Pools → List ℕ → ℕ → Record → Bool
may_follow pools seen least r = in_range r && (has_chain pools r && (leb least r.start && not (is_among r.id seen)))

abbrev pub sound_from : Pools → List ℕ → ℕ → List Record → Bool
sound_from pools seen least [] = true
sound_from pools seen least (r ∷ rs) =
    may_follow pools seen least r && sound_from pools (r.id ∷ seen) (least_behind (event_of pools r)) rs
