-- What the demands speak of is there for both callers: a list without events, and the file that carries it.
-- Assumes nothing.
use mathlib.Core.Path.{refl}
use Prim.Native.Nat.{ℕ, zero, suc, ◌≤◌}
use native.Mathlib.Omega.{arith}
use lib.Dec.{T}
use lib.ListN.{replicate}
use Rattle.eit.specs.Sizes.{sizes_of}
use Rattle.eit.specs.declared.Sizes.{Sizes}
use Rattle.eit.specs.declared.Caller.{Caller}
use Rattle.eit.specs.declared.Caller.TheVariants.{Broadcast, Cable}
use Rattle.eit.specs.Limits.{version_max}
use Rattle.eit.specs.Crc.{crc32}
use Rattle.eit.specs.Records.{records_of}
use Rattle.eit.specs.Sound.{sound, events_of}
use Rattle.sections.specs.Every.{Every}
use Rattle.sections.specs.Section.{version_of}
use Rattle.schedule.specs.Build.{build}
use Rattle.schedule.specs.Given.{Given, Carries}
use Rattle.schedule.specs.ExampleLists.{row, plain_events}
use Rattle.schedule.specs.ExampleCalls.{identity_with}
use Rattle.schedule.proofs.Demands.{demands}
use Rattle.samples_proved.specs.SampleLists.{empty_file}

-- versions of zeros are legal
zeros_legal : (n : ℕ) → Every (λ (version : ℕ). version ≤ version_max) (replicate n 0)
zeros_legal zero = tt
zeros_legal (suc n) = (omega arith, zeros_legal n)

given : (sizes : Sizes) → T (sound sizes (plain_events 0 0).pools (plain_events 0 0).list) → Given sizes
given sizes is_sound =
    record {
      pools = (plain_events 0 0).pools;
      list = (plain_events 0 0).list;
      base = 49_273;
      identity = identity_with 0;
      day_bytes = tt;
      series_bytes = tt;
      is_sound = is_sound;
      legal_base = omega arith;
      legal_identity =
          record {
            triplet_rules = record { service = omega arith; stream = omega arith; network = omega arith };
            sixteen = refl;
            version_rules = zeros_legal 16;
          };
    }

pub nothing : (caller : Caller) → Given (sizes_of caller)
unfolding sound records_of row
nothing Broadcast = given (sizes_of Broadcast) tt
nothing Cable = given (sizes_of Cable) tt

pub carried : (caller : Caller) → Carries (nothing caller) empty_file
unfolding build sound events_of records_of crc32 version_of row given nothing
carried Broadcast = (demands Broadcast).built_carries (nothing Broadcast) (replicate 18 0xAA) refl
carried Cable = (demands Cable).built_carries (nothing Cable) (replicate 18 0xAA) refl
