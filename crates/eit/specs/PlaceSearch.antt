-- What 02, W-203, claims of the search for the place of a start, for every list of starts, sorted or not. The value is
-- in proofs/Placing.antt. Assumes nothing.
use Rattle.std.specs.Prelude.{◌≡◌, ℕ, ◌+◌, ◌*◌, ◌≤◌, ◌<◌, min, List, [], ◌∷◌, ◌++◌, length, get_or}
use Rattle.eit.specs.Find.{place_of}
use Rattle.eit.specs.Placing.{placing, records_lent, placing_in}
use Rattle.eit.specs.Records.{EventList, record_size}
use Rattle.eit.specs.Sound.{starts_of}
use Rattle.eit.specs.declared.Record.{Record}

-- none of the starts is later
abbrev pub NoneLater : ℕ → List ℕ → Type 0
NoneLater start [] = Unit {0}
NoneLater start (s ∷ ss) = (s ≤ start) × NoneLater start ss

pub record PlaceSearch : Type 0 where
  -- "it should end at the first record with a later start .. It also gives the number of records looked at: those up to
  -- and with that one"
  pub ends_at_later : (start : ℕ) (before : List ℕ) (s : ℕ) (behind : List ℕ) → NoneLater start before → start < s
      → placing start (before ++ s ∷ behind) ≡ record { place = length before; looked = length before + 1 }
  -- "or the list's count if there is none"
  pub none_later : (start : ℕ) (starts : List ℕ) → NoneLater start starts
      → placing start starts ≡ record { place = length starts; looked = length starts }
  -- so the number looked at is one more than the place, at most the count
  pub looked_at : (start : ℕ) (starts : List ℕ)
      → (placing start starts).looked ≡ min ((placing start starts).place + 1) (length starts)
  -- "Neither answer depends on what stands behind that record": it is start n of two lists that are the same up to it
  pub behind_it_free : (start n : ℕ) (starts others : List ℕ) → n < length starts → n < length others
      → ((i : ℕ) → i ≤ n → get_or starts i 0 ≡ get_or others i 0) → start < get_or starts n 0
      → placing start starts ≡ placing start others
  -- .. nor does it in a lent list: what numbers follow, how many it counts and how long the buffer is
  pub list_behind_it_free : (start n : ℕ) (list other : EventList) → n < records_lent list → n < records_lent other
      → ((i : ℕ) → i < (n + 1) * record_size → get_or list.buffer i 0 ≡ get_or other.buffer i 0)
      → start < get_or list.buffer (n * record_size + 1) 0
      → placing_in start list ≡ placing_in start other
  -- "Its result and promise remain": the place is that of document 01's PUT and MOVE
  pub same_place : (start : ℕ) (rs : List Record) → (placing start (starts_of rs)).place ≡ place_of start rs
