-- The rows of specs/Overlapping.antt hold: each is computed. Assumes nothing.
use mathlib.Core.Path.{refl}
use Rattle.eit.specs.Crc.{crc32}
use Rattle.eit.specs.Chain.{is_chain}
use Rattle.eit.specs.Pools.{choose}
use Rattle.eit.specs.Records.{records_of}
use Rattle.eit.specs.Events.{follows}
use Rattle.eit.specs.Overlap.{overlap}
use Rattle.eit.specs.Sound.{sound, events_of}
use Rattle.script.specs.Form.{form_of}
use Rattle.script.specs.Struck.{unstruck_in}
use Rattle.script.specs.Edit.{edit}
use Rattle.sections.specs.Section.{version_of}
use Rattle.sections.specs.HeaderTests.{is_framed, has_right_crc, is_header, has_right_numbering}
use Rattle.sections.specs.EventTests.{is_event, is_event_loop, is_within_limit}
use Rattle.sections.specs.Read.{versions_in, read}
use Rattle.schedule.specs.Plan.{plan}
use Rattle.schedule.specs.Build.{build}
use Rattle.samples_proved.specs.Overlapping.{Overlapping}

pub overlapping : Overlapping
unfolding edit form_of unstruck_in build plan read is_framed has_right_crc is_header has_right_numbering is_event is_event_loop
    is_within_limit sound events_of records_of follows overlap choose is_chain crc32 version_of versions_in
overlapping =
    record {
      put_touching = refl;
      put_early = refl;
      put_long = refl;
      put_present = refl;
      put_full = refl;
      put_full_touching = refl;
      move_touching = refl;
      move_early = refl;
      edit_refused = refl;
      edit_touching = refl;
      build_refused = refl;
      build_touching = refl;
      plan_refused = refl;
      plan_touching = refl;
      check_refused = refl;
      check_touching = refl;
      read_refused = refl;
      read_touching = refl;
    }
