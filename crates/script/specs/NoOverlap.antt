-- What 02, W-204 ("No two programmes in the same minute"), claims of sound lists and of Edit, for every sizes. The
-- value is in proofs/NoOverlap.antt. Assumes nothing.
use Rattle.std.specs.Prelude.{◌≡◌, ◌↔◌, not, ℕ, suc, ◌*◌, ◌≤◌, ◌<◌, List, T, ltb, length, get_or}
use Rattle.eit.specs.declared.Sizes.{Sizes}
use Rattle.eit.specs.Limits.{window_seconds}
use Rattle.eit.specs.Pools.{Pools}
use Rattle.eit.specs.Records.{EventList, record_size, records_of}
use Rattle.eit.specs.Among.{is_among, all_differ}
use Rattle.eit.specs.Overlap.{end_of, OnTogether}
use Rattle.eit.specs.Sound.{in_range, has_chain, ids_of, sound}
use Rattle.eit.specs.declared.Record.{Record}
use Rattle.script.specs.Form.{Act, put, withdraw, move}
use Rattle.script.specs.Machine.{zero_record, without, moved, refused, step}
use Rattle.script.specs.Edit.{edit}

-- record i of a list
abbrev pub record_at : EventList → ℕ → Record
record_at list i = get_or (records_of list) i zero_record

-- an event is on with one of some in one second
abbrev pub OnWithOne : Record → List Record → Type 0
OnWithOne r ss = (i : ℕ) × (i < length ss) × OnTogether r (get_or ss i zero_record)

-- what makes a list sound, each event beside the next
pub record SoundList (sizes : Sizes) (pools : Pools) (list : EventList) : Type 0 where
  pub few : list.count ≤ sizes.event_limit
  pub held : list.count * record_size ≤ length list.buffer
  pub valid : (i : ℕ) → i < list.count → T (in_range (record_at list i)) × T (has_chain pools (record_at list i))
  pub ends : (i : ℕ) → suc i < list.count → end_of (record_at list i) ≤ (record_at list (suc i)).start
  pub differ : T (all_differ (ids_of (records_of list)))

-- an edit passes the checks that stand before 30: 5, 9 and 6
abbrev pub PassesBefore : Pools → EventList → Act → Type 0
PassesBefore pools list (put r) =
    T (in_range r) × T (has_chain pools r) × T (not (is_among r.id (ids_of (records_of list))))
PassesBefore pools list (withdraw id) = T (is_among id (ids_of (records_of list)))
PassesBefore pools list (move id start) = T (ltb start window_seconds) × T (is_among id (ids_of (records_of list)))

-- its event would be on with another one: of MOVE, with its own duration and without itself
abbrev pub WouldOverlap : EventList → Act → Type 0
WouldOverlap list (put r) = OnWithOne r (records_of list)
WouldOverlap list (withdraw id) = ⊥
WouldOverlap list (move id start) = OnWithOne (moved id start (records_of list)) (without id (records_of list))

pub record NoOverlap : Type 0 where
  -- "A list is sound only if each event's start + duration is at most the next event's start. Touching is legal.": this
  -- and what document 01 asks; that starts rise strictly follows, since durations are at least 1
  pub sound_exactly : (sizes : Sizes) (pools : Pools) (list : EventList)
      → T (sound sizes pools list) ↔ SoundList sizes pools list
  -- no two events of a sound list, neighbours or not, are on in one second
  pub none_together : (sizes : Sizes) (pools : Pools) (list : EventList) → T (sound sizes pools list)
      → (i j : ℕ) → i < list.count → j < list.count → OnTogether (record_at list i) (record_at list j) → i ≡ j
  -- "Refused: 30, a PUT or MOVE that would overlap another event": exactly one that passes the checks before it
  pub refused_exactly : (sizes : Sizes) (pools : Pools) (list : EventList) → T (sound sizes pools list) → (a : Act)
      → (step sizes pools list a ≡ refused 30) ↔ (PassesBefore pools list a × WouldOverlap list a)
  -- and so Edit leaves a sound list sound, accepted or refused
  pub keeps_sound : (sizes : Sizes) (pools : Pools) (list : EventList) (script : List ℕ) → T (sound sizes pools list)
      → T (sound sizes pools (edit sizes pools list script).list)
