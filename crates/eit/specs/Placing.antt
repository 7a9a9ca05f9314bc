-- The search for the place of a start, from the front, over the starts of any records, sorted or not (02, W-203).
-- Claims: PlaceSearch.antt; laws: proofs/Placing.antt. Assumes nothing.
use Rattle.std.specs.Prelude.{ℕ, suc, ◌/◌, min, true, false, List, [], ◌∷◌, ltb, length}
use Rattle.eit.specs.Records.{EventList, record_size, records_in}
use Rattle.eit.specs.Sound.{starts_of}
use Rattle.eit.specs.declared.Place.{Place}

-- one record more in front, which is looked at and is not later
abbrev pub behind_one : Place → Place
behind_one p = record { place = suc p.place; looked = suc p.looked }

-- 02, W-203: the search "should end at the first record with a later start", and the place is before that one. "It also
-- gives the number of records looked at: those up to and with that one, or the list's count if there is none"
abbrev pub placing : ℕ → List ℕ → Place
placing start [] = record { place = 0; looked = 0 }
placing start (s ∷ ss) =
    elim (ltb start s) [ true ↦ record { place = 0; looked = 1 } | false ↦ behind_one (placing start ss) ]

-- over the records of a lent list: as many as it counts, and as its buffer holds
abbrev pub records_lent : EventList → ℕ
records_lent list = min list.count (length list.buffer / record_size)

unfoldable pub placing_in : ℕ → EventList → Place
placing_in start list = placing start (starts_of (records_in (records_lent list) list.buffer))
