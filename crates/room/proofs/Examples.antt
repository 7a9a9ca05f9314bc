-- The rows of specs/Examples.antt hold. Those in short sections are computed; those in the papers' sizes by one test or
-- two, of the length that is given and of the next one, since fitting falls as a chain grows. Assumes nothing.
use mathlib.Core.Path.{◌≡◌, refl, ap, ◌∙◌}
use mathlib.Core.Bool.{Bool, not, ◌&&◌}
use mathlib.Core.Logic.{⊎_elim}
use mathlib.Core.List.{List}
use Prim.Native.Nat.{ℕ, suc, ◌≤◌}
use native.Mathlib.Omega.{arith}
use lib.Dec.{T, ltb, leb, ltb→lt, leb→le, T_not}
use Rattle.std.specs.Prelude.{Option, None, Some}
use Rattle.eit.specs.Sizes.{broadcast, cable}
use Rattle.eit.specs.declared.Sizes.{Sizes}
use Rattle.eit.specs.Limits.{window_seconds}
use Rattle.eit.specs.Chain.{is_chain}
use Rattle.eit.specs.Pools.{choose}
use Rattle.eit.specs.Records.{records_of}
use Rattle.eit.specs.Events.{Event, follows}
use Rattle.eit.specs.Sound.{sound, events_of}
use Rattle.eit.proofs.Test.{tests, test_or}
use Rattle.schedule.specs.ExampleLists.{row, Case, plain_events}
use Rattle.room.specs.OneMore.{is_taken}
use Rattle.room.specs.ChainRoom.{leaves_packable, largest, chain_max, never_one, chain_room}
use Rattle.room.specs.Examples.{chain_of, room_in, fits_up_to, none_fits, thirteen_left, eight_full, seven_and_plain, Figures}
use Rattle.room.specs.Examples.{Examples}
use Rattle.room.proofs.Largest.{largest_last, largest_none}
use Rattle.room.proofs.ByLength.{shorter_leaves}
use Rattle.room.proofs.ChainRoom.{room_sound, length_free}

-- what a row in the papers' sizes computes of its case and start
module _ (sizes : Sizes) (c : Case) (start : ℕ) where
  abbrev es : List Event
  es = events_of c.pools c.list

  abbrev leaves : ℕ → Bool
  leaves n = leaves_packable sizes es start n

  -- the list is sound, and the start is free and in the window
  abbrev is_answered : Bool
  is_answered = sound sizes c.pools c.list && (not (is_taken start es) && ltb start window_seconds)

  answered : T is_answered → (found : Option ℕ) → largest leaves (chain_max sizes) ≡ found
      → room_in sizes c start ≡ record { number = 0; given = never_one found }
  answered is-answered found is =
      room_sound sizes c.pools c.list start (search tests)
      ∙ ap (λ (n : Option ℕ). record { number = 0; given = n })
      (length_free sizes es start (search tests) (ltb→lt start window_seconds (search tests)) ∙ ap never_one is)

  -- where n does not leave the segment packable, nothing longer does
  longer_fails : (n k : ℕ) → n ≤ k → T (not (leaves n)) → T (not (leaves k))
  longer_fails n k less fails =
      ⊎_elim (λ fits. absurd (T_not (leaves n) fails (shorter_leaves sizes es start n k less fits)))
      (λ fails-too. fails-too) (test_or (leaves k))

  -- n leaves it packable, and n + 1 does not
  abbrev is_longest : ℕ → Bool
  is_longest n = leb n (chain_max sizes) && (leaves n && not (leaves (suc n)))

  by_two : T is_answered → (n : ℕ) → T (is_longest n)
      → room_in sizes c start ≡ record { number = 0; given = never_one (Some n) }
  by_two is-answered n is-longest =
      answered is-answered (Some n)
      (largest_last leaves (chain_max sizes) n
      (record {
        within = leb→le n (chain_max sizes) (search tests);
        itself = search tests;
        behind = λ k more most. longer_fails (suc n) k (omega arith) (search tests);
      }))

  -- not even 0 does
  by_one : T is_answered → T (not (leaves 0)) → room_in sizes c start ≡ record { number = 0; given = None }
  by_one is-answered fails =
      answered is-answered None
      (largest_none leaves (chain_max sizes) (λ m most. longer_fails 0 m (omega arith) fails))

most : room_in broadcast (plain_events 0 0) 0 ≡ fits_up_to 4_066
unfolding leaves_packable sound events_of records_of follows choose is_chain chain_of row
most = by_two broadcast (plain_events 0 0) 0 tt 4_066 tt

cable_most : room_in cable (plain_events 0 0) 0 ≡ fits_up_to 994
unfolding leaves_packable sound events_of records_of follows choose is_chain chain_of row
cable_most = by_two cable (plain_events 0 0) 0 tt 994 tt

thirteen_left_holds : room_in broadcast thirteen_left 80 ≡ fits_up_to 0
unfolding leaves_packable sound events_of records_of follows choose is_chain chain_of row
thirteen_left_holds = by_two broadcast thirteen_left 80 tt 1 tt

between_first_two : room_in broadcast thirteen_left 5 ≡ none_fits
unfolding leaves_packable sound events_of records_of follows choose is_chain chain_of row
between_first_two = by_one broadcast thirteen_left 5 tt tt

among_338 : room_in broadcast (seven_and_plain 328) 80 ≡ fits_up_to 10
unfolding leaves_packable sound events_of records_of follows choose is_chain chain_of row
among_338 = by_two broadcast (seven_and_plain 328) 80 tt 10 tt

among_339 : room_in broadcast (seven_and_plain 329) 80 ≡ none_fits
unfolding leaves_packable sound events_of records_of follows choose is_chain chain_of row
among_339 = by_one broadcast (seven_and_plain 329) 80 tt tt

eight_full_holds : room_in broadcast eight_full 80 ≡ none_fits
unfolding leaves_packable sound events_of records_of follows choose is_chain chain_of row
eight_full_holds = by_one broadcast eight_full 80 tt tt

pub figures : Figures
figures =
    record {
      most = most;
      cable_most = cable_most;
      thirteen_left_holds = thirteen_left_holds;
      between_first_two = between_first_two;
      among_338 = among_338;
      among_339 = among_339;
      eight_full_holds = eight_full_holds;
    }

pub examples : Examples
unfolding chain_room sound events_of records_of follows choose is_chain chain_of row
examples =
    record {
      empty = refl;
      two_left = refl;
      right_before = refl;
      short_between = refl;
      half_left = refl;
      length_1 = refl;
      length_0 = refl;
      too_many = refl;
      no_event = refl;
      no_room = refl;
      taken = refl;
      in_programme = refl;
      last_taken = refl;
      last_second = refl;
      past_last = refl;
      own_unpackable = refl;
      own_last_second = refl;
      other_unpackable = refl;
      elsewhere = refl;
      before_segment = refl;
      series_chains = refl;
      behind_count = refl;
      full_list_holds = refl;
      unsound_list = refl;
      unsound_taken = refl;
      unsound_past = refl;
      over_limit = refl;
    }
