-- The rows of specs/Examples.antt and specs/Answers.antt hold: each is computed. Assumes nothing.
use mathlib.Core.Path.{refl}
use Rattle.eit.specs.Crc.{crc32}
use Rattle.eit.specs.Chain.{is_chain}
use Rattle.eit.specs.Pools.{choose}
use Rattle.eit.specs.Records.{records_of}
use Rattle.eit.specs.Events.{follows}
use Rattle.eit.specs.Sound.{sound, events_of}
use Rattle.sections.specs.Section.{version_of}
use Rattle.sections.specs.Decode.{split_events, split_file}
use Rattle.sections.specs.HeaderTests.{is_framed, has_right_crc, is_header, has_right_numbering}
use Rattle.sections.specs.EventTests.{is_event, is_event_loop, is_within_limit}
use Rattle.sections.specs.Read.{versions_in, check_file}
use Rattle.schedule.specs.Plan.{plan}
use Rattle.schedule.specs.Build.{build}
use Rattle.schedule.specs.ExampleLists.{row}
use Rattle.schedule.specs.Examples.{Examples}
use Rattle.schedule.specs.Answers.{Answers}

pub examples : Examples
unfolding build plan sound events_of records_of follows choose is_chain crc32 version_of row
examples =
    record {
      gap_sections = refl;
      gap_plan = refl;
      gap_file_holds = refl;
      gap_short = refl;
      eight_packed = refl;
      eight_plan = refl;
      nine_unpackable = refl;
      nine_plan = refl;
      nine_packed = refl;
      pairs_plan = refl;
      nine_last = refl;
      two_together = refl;
      two_apart = refl;
      chain_fits = refl;
      chain_too_long = refl;
    }

pub answers : Answers
unfolding build plan sound events_of records_of follows choose is_chain crc32 version_of row
    check_file split_file split_events is_framed has_right_crc is_header has_right_numbering is_event is_event_loop is_within_limit
    versions_in
answers =
    record {
      version_written = refl;
      byte_short = refl;
      versions_by_section = refl;
      versions_written = refl;
      versions_back = refl;
      version_present = refl;
      version_absent = refl;
      version_most = refl;
      base = refl;
      version = refl;
      unsound_list = refl;
      unpackable = refl;
      base_first = refl;
      absent_version_first = refl;
      version_first = refl;
      unsound_first = refl;
      unpackable_first = refl;
      unsound_plan = refl;
    }
