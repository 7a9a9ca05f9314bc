-- Build of a list with one more event: its segment alone can have become unpackable, and it has exactly if the chain is
-- longer than the length that is given. Assumes nothing.
use mathlib.Core.Path.{◌≡◌, refl, sym, ap, subst, ◌∙◌}
use mathlib.Core.Bool.{not}
use mathlib.Core.Logic.{◌↔◌, ⊎_elim}
use mathlib.Core.List.{List, ◌∷◌}
use Prim.Native.Nat.{ℕ, ◌≤◌, ◌<◌}
use native.Mathlib.Omega.{arith}
use lib.Dec.{T, T_not}
use lib.ListN.{length}
use Rattle.std.specs.Prelude.{Some}
use Rattle.eit.specs.Sizes.{room}
use Rattle.eit.specs.declared.Sizes.{Sizes}
use Rattle.eit.specs.Records.{EventList}
use Rattle.eit.specs.Events.{Event, event_of}
use Rattle.eit.specs.declared.Record.{Record}
use Rattle.eit.proofs.Test.{le_or_lt, eq_or_not}
use Rattle.eit.proofs.Sound.{range_facts}
use Rattle.script.specs.Form.{put_record}
use Rattle.script.specs.Edit.{edit}
use Rattle.script.proofs.Edit.{edit_sound}
use Rattle.script.proofs.Machine.{PutDone}
use Rattle.packing.specs.Greedy.{unpackable}
use Rattle.sections.specs.Segment.{segment_index}
use Rattle.sections.specs.Section.{event_size, section_sizes}
use Rattle.schedule.specs.SectionsOf.{is_unpackable}
use Rattle.schedule.specs.Build.{Built}
use Rattle.schedule.specs.Given.{Given, built, events, EightHold}
use Rattle.schedule.proofs.Build.{written_short, written_fits}
use Rattle.schedule.proofs.Packable.{test_is, eight_hold, held_packable}
use Rattle.schedule.proofs.Given.{Fits, own_sections, build_or}
use Rattle.room.specs.OneMore.{inserted}
use Rattle.room.specs.ChainRoom.{ChainRoom, chain_room}
use Rattle.room.specs.StillFits.{HeldWith}
use Rattle.room.proofs.OneMore.{other_segment}
use Rattle.room.proofs.ChainRoom.{Gives, room_sound, room_gives, length_or}
use Rattle.room.proofs.Given.{given_exactly, none_held}
use Rattle.room.proofs.OnePut.{accepted_put, put_events, put_chain, put_free}

-- Build that can write does not say 10
fits_not_10 : {sizes : Sizes} (g : Given sizes) (output : List ℕ) → Fits g → (built g output).number ≡ 10 → ⊥
fits_not_10 g output fits ten =
    ⊎_elim
    (λ (same, is).
    ⊎_elim
    (λ enough.
    omega (arith, ap (λ (b : Built). b.number) (is output ∙ written_fits g.base (own_sections g) output enough)))
    (λ short.
    omega (arith, ap (λ (b : Built). b.number) (is output ∙ written_short g.base (own_sections g) output short)))
    (le_or_lt (section_sizes (own_sections g)) (length output)))
    (λ (index, few, fails, before, is). T_not (is_unpackable _ (events g) index) (fits index) fails) (build_or g)

module _ {sizes : Sizes} (g : Given sizes) (operands : List ℕ) (whole : length operands ≡ 17)
    (accepts : (edit sizes g.pools g.list (0x01 ∷ operands)).number ≡ 0) where
  abbrev r : Record
  r = put_record operands

  abbrev e : Event
  e = event_of g.pools r

  abbrev index : ℕ
  index = segment_index r.start

  abbrev after : EventList
  after = (edit sizes g.pools g.list (0x01 ∷ operands)).list

  is_put : PutDone sizes g.pools g.list r after
  is_put = accepted_put sizes g.pools g.list operands whole g.is_sound accepts

  -- what Build is given then
  abbrev given_after : Given sizes
  given_after =
      record {
        pools = g.pools;
        list = after;
        base = g.base;
        identity = g.identity;
        day_bytes = g.day_bytes;
        series_bytes = g.series_bytes;
        is_sound = edit_sound sizes g.pools g.list (0x01 ∷ operands) g.is_sound;
        legal_base = g.legal_base;
        legal_identity = g.legal_identity;
      }

  events_after : events given_after ≡ inserted e (events g)
  events_after = put_events sizes g.pools g.list operands whole g.is_sound is_put

  module _ (rest : (other : ℕ) → (other ≡ index → ⊥) → EightHold sizes (events g) other) where
    -- only the event's segment can be unpackable
    only_own : (other : ℕ) → T (is_unpackable sizes (events given_after) other) → other ≡ index
    only_own other fails =
        ⊎_elim (λ same. same)
        (λ elsewhere.
        let unchanged : is_unpackable sizes (events given_after) other ≡ is_unpackable sizes (events g) other =
        ap (λ (es : List Event). is_unpackable sizes es other) events_after
        ∙ test_is sizes (inserted e (events g)) other
        ∙ ap (unpackable event_size (room sizes) 8) (other_segment other e (events g) (λ same. elsewhere (sym same)))
        ∙ sym (test_is sizes (events g) other) in
        absurd
        (T_not (is_unpackable sizes (events g) other)
        (held_packable sizes (events g) other (rest other elsewhere)) (subst T unchanged fails)))
        (eq_or_not other index)

    -- so Build says 10 exactly if no eight sections hold it, and then for its segment
    held_packs : HeldWith sizes (events g) e → T (not (is_unpackable sizes (events given_after) index))
    held_packs held =
        subst (λ (es : List Event). T (not (is_unpackable sizes es index))) (sym events_after)
        (held_packable sizes (inserted e (events g)) index held)

    packs_held : T (not (is_unpackable sizes (events given_after) index)) → HeldWith sizes (events g) e
    packs_held fits =
        eight_hold sizes (inserted e (events g)) index
        (subst (λ (es : List Event). T (not (is_unpackable sizes es index))) events_after fits)

    held_not_10 : (output : List ℕ) → HeldWith sizes (events g) e → (built given_after output).number ≡ 10 → ⊥
    held_not_10 output held ten =
        ⊎_elim (λ (fits, is). fits_not_10 given_after output fits ten)
        (λ (other, few, fails, before, is).
        T_not (is_unpackable sizes (events given_after) index) (held_packs held)
        (subst (λ (i : ℕ). T (is_unpackable sizes (events given_after) i)) (only_own other fails) fails))
        (build_or given_after)

    not_held_10 : (output : List ℕ) → (HeldWith sizes (events g) e → ⊥) → (built given_after output).number ≡ 10
    not_held_10 output not-held =
        ⊎_elim (λ (fits, is). absurd (not-held (packs_held (fits index))))
        (λ (other, few, fails, before, is). ap (λ (b : Built). b.number) (is output)) (build_or given_after)

    pub at_own : (output : List ℕ) → (built given_after output).number ≡ 10 → (built given_after output).value ≡ index
    at_own output ten =
        ⊎_elim (λ (fits, is). absurd (fits_not_10 given_after output fits ten))
        (λ (other, few, fails, before, is). ap (λ (b : Built). b.value) (is output) ∙ only_own other fails)
        (build_or given_after)

    pub longer_10 : (output : List ℕ)
        → ((built given_after output).number ≡ 10)
        ↔ ((n : ℕ) → (chain_room sizes g.pools g.list r.start).given ≡ Some n → n < r.chain_length)
    longer_10 output =
        let (chain, size) = put_chain sizes g.pools g.list operands whole g.is_sound is_put in
        let exactly : (n : ℕ) → Gives sizes (events g) r.start n
        → HeldWith sizes (events g) e ↔ (length e.chain ≤ n) =
        λ n gives. given_exactly sizes (events g) e n chain gives in (
          λ ten n is.
              ⊎_elim
              (λ few.
              absurd
              (held_not_10 output
              ((exactly n (room_gives sizes g.pools g.list r.start n is).1).1 (omega arith)) ten))
              (λ more. more) (le_or_lt r.chain_length n),
          λ longer.
              not_held_10 output
              (λ held.
              ⊎_elim
              (λ (is, why).
              ⊎_elim (λ taken. put_free sizes g.pools g.list operands whole g.is_sound is_put taken)
              (⊎_elim (λ past. omega (arith, (range_facts r is_put.range).start))
              (λ fails. none_held sizes (events g) r.start fails e refl held)) why)
              (λ (n, is, gives).
              let given : (chain_room sizes g.pools g.list r.start).given ≡ Some n =
              ap (λ (c : ChainRoom). c.given) (room_sound sizes g.pools g.list r.start g.is_sound) ∙ is in
              omega (arith, longer n given, (exactly n gives).0 held))
              (length_or sizes (events g) r.start)),
        )
