-- What the face's numbers say: the caller and the identity that a call is given, and a struct and the lent buffer as
-- the outcome of the call's definition. Assumes nothing.
use Rattle.std.specs.Prelude.{true, false, List, ℕ, eqb, Result}
use Rattle.refusal.specs.Numbers.{number_of, value_of}
use Rattle.eit.specs.declared.Caller.{Caller}
use Rattle.eit.specs.declared.Caller.TheVariants.{Broadcast, Cable}
use Rattle.eit.specs.Records.{lent_list}
use Rattle.eit.specs.declared.Identity.{Identity}
use Rattle.eit.specs.declared.Place.{Place}
use Rattle.script.specs.Edit.{Edited}
use Rattle.room.specs.ChainRoom.{ChainRoom}
use Rattle.window.specs.Roll.{Rolled}
use Rattle.sections.specs.Read.{Answer, Reading}
use Rattle.schedule.specs.Build.{Built}
use Rattle.chain_room.specs.Outcome.{fits, length_or0}
use Rattle.chirdaluko.specs.declared.EitEdited.{EitEdited}
use Rattle.chirdaluko.specs.declared.EitPlace.{EitPlace}
use Rattle.chirdaluko.specs.declared.EitRoom.{EitRoom}
use Rattle.chirdaluko.specs.declared.EitRolled.{EitRolled}
use Rattle.chirdaluko.specs.declared.EitBuilt.{EitBuilt}
use Rattle.chirdaluko.specs.declared.EitReading.{EitReading}

-- 02, W-206: "which of the two callers it serves": 0 is broadcast, every other number cable
abbrev pub caller_of : ℕ → Caller
caller_of number = elim (eqb number 0) [ true ↦ Broadcast | false ↦ Cable ]

abbrev pub given_identity : ℕ → ℕ → ℕ → List ℕ → Identity
given_identity service stream network versions =
    record {
      triplet = record { service_id = service; transport_stream_id = stream; original_network_id = network };
      versions = versions;
    }

abbrev pub edited_of : EitEdited → List ℕ → Edited
edited_of r buffer = record { number = r.number; value = r.value; list = lent_list buffer r.count }

abbrev pub placed_of : EitPlace → Place
placed_of r = record { place = r.place; looked = r.looked }

abbrev pub chain_room_of : ChainRoom → EitRoom
chain_room_of c = record { number = c.number; fits = fits c.given; length = length_or0 c.given }

abbrev pub rolled_of : EitRolled → List ℕ → Rolled
rolled_of r buffer =
    record { number = r.number; value = r.value; list = lent_list buffer r.count; base = r.base_day }

abbrev pub built_of : EitBuilt → List ℕ → Built
built_of r output = record { number = r.number; value = r.value; output = output }

-- what Build or Rebuild says, by the numbers and the values of its refusals
abbrev pub numbered : {E : Type 0} → (E → ℕ) → (E → ℕ) → Result ℕ E → EitBuilt
numbered number_by value_by built = record { number = number_of number_by built; value = value_of value_by built }

abbrev pub answer_of : EitReading → Answer
answer_of r =
    record {
      number = r.number;
      value = r.value;
      identity = given_identity r.service_id r.transport_stream_id r.original_network_id r.versions;
      count = r.count;
    }

abbrev pub reading_of : EitReading → List ℕ → Reading
reading_of r buffer = record { answer = answer_of r; buffer = buffer }
