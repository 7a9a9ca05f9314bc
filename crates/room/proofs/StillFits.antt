-- What W-201 claims holds, by the laws of this crate; for every sizes, and so for both callers. Assumes nothing.
use mathlib.Core.Path.{◌≡◌, sym, ap, subst, ◌∙◌}
use mathlib.Core.List.{List}
use Prim.Native.Nat.{ℕ, ◌≤◌}
use native.Mathlib.Omega.{arith}
use lib.Dec.{T}
use lib.ListN.{length}
use Rattle.std.specs.Prelude.{Option, Some}
use Rattle.eit.specs.Sizes.{sizes_of, broadcast, cable}
use Rattle.eit.specs.declared.Sizes.{Sizes}
use Rattle.eit.specs.Pools.{Pools}
use Rattle.eit.specs.Records.{EventList}
use Rattle.eit.specs.Events.{Event}
use Rattle.eit.specs.Sound.{sound, events_of}
use Rattle.eit.proofs.Sound.{events_rise}
use Rattle.room.specs.ChainRoom.{leaves_packable, length_at, ChainRoom, chain_room}
use Rattle.room.specs.StillFits.{HeldWith, StillFitsFor, StillFits}
use Rattle.room.proofs.ByLength.{shorter_leaves}
use Rattle.room.proofs.ChainRoom.{room_unsound, room_sound, room_gives}
use Rattle.room.proofs.OwnSegment.{length_by_segment}
use Rattle.room.proofs.Given.{held_leaves, leaves_held, given_exactly, given_room, given_not_one, none_at}
use Rattle.room.proofs.Given.{none_free, some_chain}
use Rattle.room.proofs.BuildAfter.{at_own, longer_10}

-- the length of the call
length_is : (sizes : Sizes) (pools : Pools) (list : EventList) (start : ℕ) → T (sound sizes pools list)
    → (chain_room sizes pools list start).given ≡ length_at sizes (events_of pools list) start
length_is sizes pools list start is_sound_holds =
    ap (λ (c : ChainRoom). c.given) (room_sound sizes pools list start is_sound_holds)

shorter : (sizes : Sizes) (es : List Event) (e f : Event) → f.start ≡ e.start
    → length f.chain ≤ length e.chain → HeldWith sizes es e → HeldWith sizes es f
shorter sizes es e f same less held =
    leaves_held sizes es f
    (subst (λ (s : ℕ). T (leaves_packable sizes es s (length f.chain))) (sym same)
    (shorter_leaves sizes es e.start (length f.chain) (length e.chain) less (held_leaves sizes es e held)))

pub still_fits_for : (sizes : Sizes) → StillFitsFor sizes
still_fits_for sizes =
    record {
      unsound = room_unsound sizes;
      answers = λ pools list start is_sound_holds.
          ap (λ (c : ChainRoom). c.number) (room_sound sizes pools list start is_sound_holds);
      fits_exactly = λ pools list e n chain is.
          given_exactly sizes (events_of pools list) e n chain (room_gives sizes pools list e.start n is).1;
      at_most = λ pools list start n is.
          given_room sizes (events_of pools list) (room_gives sizes pools list start n is).1;
      never_1 = λ pools list start is.
          given_not_one sizes (events_of pools list) (room_gives sizes pools list start 1 is).1;
      a_chain = λ pools list start n is.
          some_chain n
          (λ one.
          given_not_one sizes (events_of pools list)
          (room_gives sizes pools list start 1 (is ∙ ap Some one)).1);
      none_exactly = λ pools list start is_sound_holds.
          let same = length_is sizes pools list start is_sound_holds in
          let (there, back) = none_at sizes (events_of pools list) start in
          (λ is. there (sym same ∙ is), λ why. same ∙ back why);
      none_held = λ pools list start is_sound_holds is.
          none_free sizes (events_of pools list) start (sym (length_is sizes pools list start is_sound_holds) ∙ is);
      shorter_held = shorter sizes;
      segment_only = λ pools otherPools list other start is_sound_holds other-sound same.
          room_sound sizes pools list start is_sound_holds
          ∙ ap (λ (n : Option ℕ). record { number = 0; given = n })
          (length_by_segment sizes start (events_of pools list) (events_of otherPools other)
          (events_rise sizes pools list is_sound_holds) (events_rise sizes otherPools other other-sound) same)
          ∙ sym (room_sound sizes otherPools other start other-sound);
      build_after = λ g operands output whole accepts rest. (
        at_own g operands whole accepts rest output,
        longer_10 g operands whole accepts rest output,
      );
    }

pub still_fits : StillFits
still_fits =
    record {
      any_size = still_fits_for;
      at_both = λ caller. still_fits_for (sizes_of caller);
      broadcast_4066 = λ pools list start n is.
          omega (arith, (still_fits_for broadcast).at_most pools list start n is);
      cable_994 = λ pools list start n is. omega (arith, (still_fits_for cable).at_most pools list start n is);
    }
