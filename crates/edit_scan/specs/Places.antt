-- Which commands are UNDOs and which are carried out, by their place 0, 1, .. among the commands, as sets of places;
-- and the passes that make such a set (01, "Edit": each UNDO strikes the nearest earlier edit that is not yet struck;
-- the unstruck edits are then carried out in order). A set of places is one of numbers (`Seen` of codec). Laws:
-- proofs/PlaceLaws.antt, NotedLaws.antt, LiveLaws.antt. Assumes nothing.
use Rattle.std.specs.Prelude.{◌≡◌, ℕ, zero, suc, pred, ◌+◌, ◌-◌, ◌*◌, ◌/◌, ◌%◌, ◌^◌, ◌<◌, Bool, true, false, List, [], ◌∷◌, eqb, length, get_or, set, drop}
use Rattle.codec.specs.Seen.{is_seen}
use Rattle.script.specs.Form.{Edit, Command, do_edit, undo}
use Rattle.script.specs.Struck.{pending_before}

-- the most places that a set of them has room for
abbrev pub place_limit : ℕ
place_limit = 262_144

-- ---- commands

abbrev pub is_undo : Command → Bool
is_undo (do_edit e) = false
is_undo (undo at) = true

-- an UNDO carries nothing out: it strikes by the script, before anything runs
abbrev pub edits_of : Command → List Edit
edits_of (do_edit e) = e ∷ []
edits_of (undo at) = []

-- the first of some commands is an UNDO
abbrev pub begins_undo : List Command → Bool
begins_undo [] = false
begins_undo (c ∷ cs) = is_undo c

-- it is an edit that is not struck, with p UNDOs pending behind the commands
abbrev pub begins_live : ℕ → List Command → Bool
begins_live p [] = false
begins_live p (do_edit e ∷ cs) = eqb (pending_before p cs) 0
begins_live p (undo at ∷ cs) = false

-- ---- sets

-- the set has the places of the UNDOs among the commands, and no other place of theirs
abbrev pub UndoPlaces : List ℕ → List Command → Type 0
UndoPlaces places cs = (i : ℕ) → i < length cs → is_seen places i ≡ begins_undo (drop i cs)

-- the set has the places of the edits that are not struck, and no other place of theirs
abbrev pub LivePlaces : List ℕ → ℕ → List Command → Type 0
LivePlaces places p cs = (i : ℕ) → i < length cs → is_seen places i ≡ begins_live p (drop i cs)

-- what bit j adds to a word, and the word with that bit as a test says
abbrev pub bit_in : ℕ → ℕ → ℕ
bit_in word j = word / 2 ^ j % 2 * 2 ^ j

abbrev pub with_bit : ℕ → ℕ → Bool → ℕ
with_bit word j true = word - bit_in word j + 2 ^ j
with_bit word j false = word - bit_in word j

-- the set with a place in it or not, as a test says, whatever it was; where there is no word for the place, the same
unfoldable pub with_place : List ℕ → ℕ → Bool → List ℕ
with_place places i b = set places (i / 64) (with_bit (get_or places (i / 64) 0) (i % 64) b)

-- ---- passes

-- the set after a pass that notes for each command, the first at place i, whether it is an UNDO
abbrev pub undos_noted : List ℕ → ℕ → List Command → List ℕ
undos_noted places i [] = places
undos_noted places i (c ∷ cs) = undos_noted (with_place places i (is_undo c)) (suc i) cs

-- the same up to the first UNDO that has nothing to strike, with so many edits kept before the commands
abbrev pub striking_noted : ℕ → List ℕ → ℕ → List Command → List ℕ
striking_noted kept places i [] = places
striking_noted kept places i (do_edit e ∷ cs) = striking_noted (suc kept) (with_place places i false) (suc i) cs
striking_noted zero places i (undo at ∷ cs) = places
striking_noted (suc kept) places i (undo at ∷ cs) = striking_noted kept (with_place places i true) (suc i) cs

-- the set after a pass from place k - 1 down to place 0 that makes it, from the places of UNDOs, the places of live
-- edits, with so many UNDOs pending behind: an UNDO is one more, an edit takes one away, or is live if there is none
unfoldable pub live_marked : List ℕ → ℕ → ℕ → List ℕ
live_marked places pending zero = places
live_marked places pending (suc i) =
    elim (is_seen places i) [
      | true ↦ live_marked (with_place places i false) (suc pending) i
      | false ↦ live_marked (with_place places i (eqb pending 0)) (pred pending) i
    ]
