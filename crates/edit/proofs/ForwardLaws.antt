-- The pass forward that carries out the live edits by their places: where it stands before a place, and what the
-- command there comes to. By the laws of `run` and by `live` at a place. Assumes nothing.
use mathlib.Core.Path.{◌≡◌, refl, sym, ap, ◌∙◌, subst}
use mathlib.Core.Bool.{true, false}
use mathlib.Core.List.{List, ◌∷◌, ◌++◌}
use Prim.Native.Nat.{ℕ, ◌+◌, ◌≤◌, ◌<◌}
use lib.Dec.{T}
use lib.ListN.{length, drop, drop_of_length-le}
use Rattle.eit.specs.declared.Sizes.{Sizes}
use Rattle.eit.specs.Pools.{Pools}
use Rattle.eit.specs.Records.{EventList}
use Rattle.eit.specs.Sound.{sound}
use Rattle.codec.specs.Seen.{is_seen}
use Rattle.script.specs.Form.{Command}
use Rattle.script.specs.Struck.{live}
use Rattle.script.specs.Edit.{Edited, run}
use Rattle.script.proofs.Edit.{run_append, run_sound}
use Rattle.edit_scan.specs.Places.{edits_of, begins_live, LivePlaces}
use Rattle.edit_scan.proofs.LiveLaws.{live_begins, live_passes}
use Rattle.edit.specs.Run.{run_one}
use Rattle.edit.proofs.RunLaws.{none_done, run_ends}

module _ (sizes : Sizes) (pools : Pools) (first : EventList) (places : List ℕ) (cs : List Command) where
  -- all live edits on the first list come to those from this place on on this list, which is sound
  pub record Carried (list : EventList) (place : ℕ) : Type 0 where
    pub is_sound_holds : T (sound sizes pools list)
    pub left : (undos : ℕ) → LivePlaces places undos cs
        → run sizes pools first (live undos cs)
        ≡ run sizes pools list (live undos (drop place cs))

  pub carried_none : T (sound sizes pools first) → Carried first 0
  carried_none t = record { is_sound_holds = t; left = λ undos are. refl }

  module _ {list : EventList} {place : ℕ} (d : Carried list place) where
    -- no place is left
    pub carried_all : length cs ≤ place → (undos : ℕ) → LivePlaces places undos cs
        → run sizes pools first (live undos cs)
        ≡ record { number = 0; value = list.count; list = list }
    carried_all all undos are =
        d.left undos are
        ∙ ap (λ (rest : List Command). run sizes pools list (live undos rest))
        (drop_of_length-le cs {i = place} all)
        ∙ none_done sizes pools list

    -- c is the command at the place
    module _ (some : place < length cs) (c : Command) (split : drop place cs ≡ c ∷ drop (place + 1) cs) where
      pub carried_past : is_seen places place ≡ false → Carried list (place + 1)
      carried_past e =
          record {
            is_sound_holds = d.is_sound_holds;
            left = λ undos are.
                d.left undos are
                ∙ ap (run sizes pools list)
                (ap (live undos) split
                ∙ live_passes undos c (drop (place + 1) cs)
                (sym (ap (begins_live undos) split) ∙ sym (are place some) ∙ e));
          }

      -- o is what it comes to
      module _ (e : is_seen places place ≡ true) (o : Edited) (does : run_one sizes pools list c ≡ o) where
        with_it : (undos : ℕ) → LivePlaces places undos cs
            → run sizes pools first (live undos cs)
            ≡ run sizes pools list (edits_of c ++ live undos (drop (place + 1) cs))
        with_it undos are =
            d.left undos are
            ∙ ap (run sizes pools list)
            (ap (live undos) split
            ∙ live_begins undos c (drop (place + 1) cs) (sym (ap (begins_live undos) split) ∙ sym (are place some) ∙ e))

        pub carried_ends : (o.number ≡ 0 → ⊥) → (undos : ℕ) → LivePlaces places undos cs
            → run sizes pools first (live undos cs) ≡ o
        carried_ends refuses undos are =
            with_it undos are
            ∙ run_ends sizes pools list (edits_of c) (live undos (drop (place + 1) cs))
            (λ z. refuses (sym (ap (λ (x : Edited). x.number) does) ∙ z))
            ∙ does

        pub carried_on : o.number ≡ 0 → Carried o.list (place + 1)
        carried_on z =
            record {
              is_sound_holds = subst (λ (x : Edited). T (sound sizes pools x.list)) does
                  (run_sound sizes pools list (edits_of c) d.is_sound_holds);
              left = λ undos are.
                  with_it undos are
                  ∙ run_append sizes pools list (edits_of c) (live undos (drop (place + 1) cs))
                  (ap (λ (x : Edited). x.number) does ∙ z)
                  ∙ ap (λ (x : Edited). run sizes pools x.list (live undos (drop (place + 1) cs)))
                  does;
            }
