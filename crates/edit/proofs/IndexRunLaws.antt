-- The pass forward over the live edits on an index: where it stands before a place, and what the command there comes
-- to. By the same pass on the list that the index stands for. Assumes nothing.
use mathlib.Core.Path.{◌≡◌, refl, ◌∙◌}
use mathlib.Core.Bool.{true, false}
use mathlib.Core.List.{List, ◌∷◌}
use Rattle.std.specs.Prelude.{Ok}
use Prim.Native.Nat.{ℕ, ◌+◌, ◌*◌, ◌≤◌, ◌<◌}
use native.Mathlib.Omega.{arith}
use lib.Dec.{T}
use lib.ListN.{length, drop}
use Rattle.eit.specs.declared.Sizes.{Sizes}
use Rattle.eit.specs.Pools.{Pools}
use Rattle.eit.specs.Records.{EventList, record_size}
use Rattle.eit.specs.Sound.{sound}
use Rattle.codec.specs.Seen.{is_seen}
use Rattle.script.specs.Form.{Command}
use Rattle.edit_index.specs.Index.{Index}
use Rattle.edit_index.specs.Index.{Holds, indexed_list}
use Rattle.edit.specs.Run.{run_one}
use Rattle.edit.specs.Indexed.{Kept, Leaves}
use Rattle.edit.proofs.ForwardLaws.{Carried, carried_none, carried_past, carried_on}
use Rattle.edit.proofs.SoundLaws.{kept_sound}

module _ (sizes : Sizes) (pools : Pools) (first : EventList) (places : List ℕ) (cs : List Command) where
  -- before a place: an index, in a lent list of so many numbers, that stands for the list that the live edits so far
  -- have made
  pub record Running (size : ℕ) (list : List ℕ) (x : Index) (place : ℕ) : Type 0 where
    pub same_size : length list ≡ size
    pub holds : Holds x
    pub fits : x.count * record_size ≤ length list
    pub carried : Carried sizes pools first places cs (indexed_list list x) place

  -- the same in other words
  pub running_same : {size place : ℕ} {list list' : List ℕ} {x x' : Index} → list' ≡ list → x' ≡ x
      → Running size list x place → Running size list' x' place
  running_same a b r = rw (a, b) r

  module _ {size : ℕ} {list : List ℕ} {x : Index} {place : ℕ} (r : Running size list x place) where
    -- what the next edit asks for
    pub running_kept : Kept list x
    running_kept = kept_sound sizes pools list x r.holds r.fits r.carried.is_sound_holds

    pub running_few : x.count ≤ length x.order
    running_few = omega (arith, r.holds.few, r.holds.order_size)

    -- c is the command at the place
    module _ (some : place < length cs) (c : Command) (split : drop place cs ≡ c ∷ drop (place + 1) cs) where
      pub running_past : is_seen places place ≡ false → Running size list x (place + 1)
      running_past e =
          record {
            same_size = r.same_size;
            holds = r.holds;
            fits = r.fits;
            carried = carried_past sizes pools first places cs r.carried some c split e;
          }

      -- it is carried out
      pub running_on : is_seen places place ≡ true → (list' : List ℕ) (y : Index)
          → Leaves (run_one sizes pools (indexed_list list x) c) (Ok tt) list' y → length list' ≡ length list
          → Running size list' y (place + 1)
      running_on e list' y leaves same =
          record {
            same_size = same ∙ r.same_size;
            holds = leaves.holds;
            fits = leaves.fits;
            carried = carried_on sizes pools first places cs r.carried some c split e _ leaves.says refl;
          }

pub running_first : (sizes : Sizes) (pools : Pools) (places : List ℕ) (cs : List Command) (list : List ℕ) (x : Index)
    → Holds x → x.count * record_size ≤ length list
    → T (sound sizes pools (indexed_list list x))
    → Running sizes pools (indexed_list list x) places cs (length list) list x 0
running_first sizes pools places cs list x h fits t =
    record { same_size = refl; holds = h; fits = fits; carried = carried_none sizes pools _ places cs t }
