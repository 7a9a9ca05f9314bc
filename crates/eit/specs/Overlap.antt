-- Events that are on at the same time (02, W-204). Laws: proofs/OverlapLaws.antt. Assumes nothing.
use Rattle.std.specs.Prelude.{ℕ, ◌+◌, ◌≤◌, ◌<◌, Bool, false, ◌&&◌, ◌||◌, List, [], ◌∷◌, ltb}
use Rattle.eit.specs.declared.Record.{Record}

-- the second in which an event ends, which is no longer its own: start + duration
abbrev pub end_of : Record → ℕ
end_of r = r.start + r.duration

-- an event is on in a second after t0
abbrev pub IsOn : ℕ → Record → Type 0
IsOn second r = (r.start ≤ second) × (second < end_of r)

-- two events are on in one second
abbrev pub OnTogether : Record → Record → Type 0
OnTogether r s = (second : ℕ) × IsOn second r × IsOn second s

-- two events overlap: each starts before the other ends, so that touching is legal. They are then on in one second:
-- `overlap_second`
unfoldable pub overlap : Record → Record → Bool
overlap r s = ltb r.start (end_of s) && ltb s.start (end_of r)

-- an event overlaps one of some
abbrev pub overlaps_one : Record → List Record → Bool
overlaps_one r [] = false
overlaps_one r (s ∷ ss) = overlap r s || overlaps_one r ss
