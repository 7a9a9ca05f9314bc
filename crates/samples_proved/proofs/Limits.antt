-- The rows of specs/Limits.antt hold: each is computed. Assumes nothing.
use mathlib.Core.Path.{refl}
use Rattle.eit.specs.Crc.{crc32}
use Rattle.eit.specs.Chain.{is_chain}
use Rattle.eit.specs.Pools.{choose}
use Rattle.eit.specs.Records.{records_of}
use Rattle.eit.specs.Events.{follows}
use Rattle.eit.specs.Sound.{sound, events_of}
use Rattle.sections.specs.Section.{version_of}
use Rattle.schedule.specs.Plan.{plan}
use Rattle.schedule.specs.Build.{build}
use Rattle.schedule.specs.ExampleLists.{row}
use Rattle.samples_proved.specs.SampleLists.{chain_of}
use Rattle.samples_proved.specs.Limits.{Limits}

pub limits : Limits
unfolding build plan sound events_of records_of follows choose is_chain crc32 version_of chain_of row
limits =
    record {
      record_buffer = (refl, refl);
      three_cuts = refl;
      later_plan = refl;
      later_build = refl;
      unpackable = refl;
    }
