-- Greedy packing (01, "Build, Read": "Packing rule: each section takes as many of the segment's next events as fit"),
-- over any element type, any size and any room, and what it is measured against: every packing of the same elements in
-- the same order.
--
-- An element is an event, a part a section's events. Where an element is larger than the room `fit` is 0, so no number
-- of parts reaches past it: "a segment that would need a ninth section" and one "that has an event with over 4,066
-- chain bytes" are one test, `unpackable`. Assumes nothing.
use Rattle.std.specs.Prelude.{◌≡◌, Bool, true, false, List, [], ◌∷◌, ◌++◌, ℕ, zero, suc, ◌+◌, ◌-◌, ◌≤◌, ◌<◌, leb, ltb, length, take, drop}

module _ {A : Type 0} where
  -- the elements of the parts, in order
  abbrev pub joined : List (List A) → List A
  joined [] = []
  joined (p ∷ ps) = p ++ joined ps

  -- 01, "Build, Read": "A section that the file lacks holds no events": how many elements the first k parts hold
  abbrev pub held : ℕ → List (List A) → ℕ
  held k ps = length (joined (take k ps))

  -- 01, "The file of sections": "A section without events is alone in its segment": no part is empty
  abbrev pub NoneEmpty : List (List A) → Type 0
  NoneEmpty [] = Unit {0}
  NoneEmpty (p ∷ ps) = (0 < length p) × NoneEmpty ps

module _ {A : Type 0} (size : A → ℕ) where
  -- the sizes of the elements, added up
  abbrev pub size_of : List A → ℕ
  size_of [] = 0
  size_of (x ∷ xs) = size x + size_of xs

  -- 01, "Build, Read": "as fit": the next element fits in what is left of the room, and may fill it
  abbrev pub fits : ℕ → A → Bool
  fits room x = leb (size x) room

  -- 01, "Build, Read": "as many of the segment's next events as fit": how many of the next elements one part takes
  abbrev pub fit : ℕ → List A → ℕ
  fit room [] = 0
  fit room (x ∷ xs) = elim (fits room x) [ true ↦ suc (fit (room - size x) xs) | false ↦ 0 ]

  -- 01, "Build, Read": "each section takes": how many elements the first k parts take
  unfoldable pub reach : ℕ → ℕ → List A → ℕ
  reach room zero xs = 0
  reach room (suc k) xs = let n = fit room xs in n + reach room k (drop n xs)

  -- 01, "Build, Read": "each section takes as many of the segment's next events as fit": the parts, at most k of them,
  -- and none once nothing is left
  unfoldable pub greedy : ℕ → ℕ → List A → List (List A)
  greedy room zero xs = []
  greedy room (suc k) [] = []
  greedy room (suc k) (x ∷ xs) = let n = fit room (x ∷ xs) in take n (x ∷ xs) ∷ greedy room k (drop n (x ∷ xs))

  -- 01's term: unpackable ("Build, Read": "A segment that would need a ninth section .. is unpackable"). An element is
  -- left after k parts
  abbrev pub unpackable : ℕ → ℕ → List A → Bool
  unpackable room k xs = ltb (reach room k xs) (length xs)

  -- 01, "The file of sections": "events have 4,078 bytes in a section": every part fits in the room
  abbrev pub AllFit : ℕ → List (List A) → Type 0
  AllFit room [] = Unit {0}
  AllFit room (p ∷ ps) = (size_of p ≤ room) × AllFit room ps

  -- ps is a packing of xs in order: it may cut anywhere, and its parts may be empty
  pub record Packing (room : ℕ) (xs : List A) (ps : List (List A)) : Type 0 where
    pub ordered : joined ps ≡ xs
    pub all_fit : AllFit room ps
