-- Greedy packing as one pass: element after element goes into the last part, or into a new one where it does not fit
-- there (01, "Build, Read", the packing rule). None: some element was not held. Laws: proofs/OnePass.antt. Assumes
-- nothing.
use Rattle.std.specs.Prelude.{ℕ, ◌-◌, true, false, ◌&&◌, List, [], ◌∷◌, leb, Option, Some, None}
use Rattle.packing.specs.declared.Filling.{Filling}

-- one part begun, and `more` that may follow
abbrev pub begun : ℕ → ℕ → Filling
begun room more = record { more = more; free = room }

-- an element of a size: into what is left of the last part, or into a new part; where neither has room, it is not held
unfoldable pub added : ℕ → Filling → ℕ → Option Filling
added room f size =
    elim (leb size f.free) [
      | true ↦ Some (record { more = f.more; free = f.free - size })
      | false ↦ elim (leb 1 f.more && leb size room) [
        | true ↦ Some (record { more = f.more - 1; free = room - size })
        | false ↦ None
      ]
    ]

-- an element behind others, of which one may not have been held
abbrev pub added_to : ℕ → Option Filling → ℕ → Option Filling
added_to room None size = None
added_to room (Some f) size = added room f size

module _ {A : Type 0} (size : A → ℕ) where
  -- elements, one after the other
  abbrev pub filled : ℕ → Option Filling → List A → Option Filling
  filled room f [] = f
  filled room f (x ∷ xs) = filled room (added_to room f (size x)) xs
