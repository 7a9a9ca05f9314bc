-- The rows of specs/Examples.antt hold: each is computed. Assumes nothing.
use mathlib.Core.Path.{refl}
use Rattle.eit.specs.Crc.{crc32}
use Rattle.eit.specs.Chain.{is_chain}
use Rattle.eit.specs.Pools.{choose}
use Rattle.eit.specs.Records.{records_of}
use Rattle.eit.specs.Events.{follows}
use Rattle.eit.specs.Sound.{sound, events_of}
use Rattle.sections.specs.Section.{version_of}
use Rattle.schedule.specs.Build.{build}
use Rattle.window.specs.Roll.{roll, rolls}
use Rattle.window.specs.KthSection.{kth_event_bytes}
use Rattle.window.specs.Examples.{Examples}

pub examples : Examples
unfolding roll rolls kth_event_bytes build sound events_of records_of follows choose is_chain crc32 version_of
examples =
    record {
      day_leaves = refl;
      over_midnight_holds = refl;
      in_order = refl;
      empty = refl;
      rolls_63 = refl;
      rolls_64 = refl;
      rolls_0 = refl;
      last_day_holds = refl;
      past_last = refl;
      far_past = refl;
      first_31 = refl;
      first_31_past = refl;
      then_12 = refl;
      short_buffer = refl;
      over_limit = refl;
      kth_first = refl;
      kth_second = refl;
      kth_table = refl;
      kth_lacking = refl;
      segment_lacking = refl;
      past_511 = refl;
      first_before = refl;
      first_after = refl;
      second_before = refl;
      second_after = refl;
      second_lacking = refl;
    }
