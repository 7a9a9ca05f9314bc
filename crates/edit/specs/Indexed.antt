-- What the machine's edits ask of the index that they run on and of the lent list, and what they leave: the list that
-- the index stands for is the plain machine's (01, "Edit"). Laws: proofs/IndexedLaws.antt. Assumes nothing.
use Rattle.std.specs.Prelude.{◌≡◌, ℕ, ◌-◌, ◌*◌, ◌≤◌, ◌<◌, true, false, List, Result, T, leb, length}
use Rattle.eit.specs.Among.{is_among, all_differ}
use Rattle.eit.specs.Records.{record_size}
use Rattle.eit.specs.Events.{events_in, rising}
use Rattle.eit.specs.Pools.{Pools}
use Rattle.eit.specs.Sound.{ids_of}
use Rattle.script.specs.Edit as model
use Rattle.edit_answer.specs.Outcome.{outcome_of}
use Rattle.edit_answer.specs.declared.EditError.{EditError}
use Rattle.edit_index.specs.Index.{id_limit, held_records, Holds, indexed_numbers}
use Rattle.edit_index.specs.Index.{Index}

-- the place of a start, of `place`, once the record before place `out` is taken out
abbrev pub place_left : ℕ → ℕ → ℕ
place_left place out = elim (leb out place) [ true ↦ place - 1 | false ↦ place ]

-- before an edit: an index of records each of which follows the one before, whose ids differ, and room for them in the
-- lent list
pub record Kept (list : List ℕ) (x : Index) : Type 0 where
  pub holds : Holds x
  pub fits : x.count * record_size ≤ length list
  pub rises : (pools : Pools) → T (rising (events_in pools (held_records x)))
  pub differ : T (all_differ (ids_of (held_records x)))
  pub small : (id : ℕ) → T (is_among id (ids_of (held_records x))) → id < id_limit

-- after it: o is what the plain machine comes to
pub record Leaves (o : model.Edited) (r : Result Unit EditError) (list : List ℕ) (x : Index) : Type 0 where
  pub says : o ≡ outcome_of r x.count (indexed_numbers list x)
  pub holds : Holds x
  pub fits : x.count * record_size ≤ length list
