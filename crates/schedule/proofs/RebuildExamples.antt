-- The rows of specs/RebuildExamples.antt and specs/RebuildAnswers.antt hold: each is computed. Assumes nothing.
use mathlib.Core.Path.{refl}
use Rattle.eit.specs.Crc.{crc32}
use Rattle.eit.specs.Chain.{is_chain}
use Rattle.eit.specs.Pools.{choose}
use Rattle.eit.specs.Records.{records_of}
use Rattle.eit.specs.Events.{follows}
use Rattle.eit.specs.Sound.{sound, events_of}
use Rattle.sections.specs.Section.{version_of}
use Rattle.sections.specs.Encode.{file_bytes}
use Rattle.sections.specs.Decode.{split_events}
use Rattle.sections.specs.HeaderTests.{is_framed, has_right_crc, is_header, has_right_numbering}
use Rattle.sections.specs.EventTests.{is_event, is_event_loop, is_within_limit}
use Rattle.sections.specs.Read.{versions_in, check_file}
use Rattle.schedule.specs.SectionsOf.{sections_of}
use Rattle.schedule.specs.Build.{build}
use Rattle.schedule.specs.Rebuild.{rebuild}
use Rattle.schedule.specs.ExampleLists.{row}
use Rattle.schedule.specs.RebuildExamples.{RebuildExamples}
use Rattle.schedule.specs.RebuildAnswers.{RebuildAnswers}

pub rebuild_examples : RebuildExamples
unfolding rebuild build check_file split_events is_framed has_right_crc is_header has_right_numbering is_event is_event_loop
    is_within_limit versions_in sections_of file_bytes sound events_of records_of follows choose is_chain crc32 version_of row
rebuild_examples =
    record {
      same_list_holds = refl;
      title_changed = refl;
      later_table = refl;
      later_gone = refl;
      between_first = refl;
      later_section = refl;
      rival_cuts = refl;
      day_later = refl;
    }

pub rebuild_answers : RebuildAnswers
unfolding rebuild build check_file split_events is_framed has_right_crc is_header has_right_numbering is_event is_event_loop
    is_within_limit versions_in sections_of file_bytes sound events_of records_of follows choose is_chain crc32 version_of row
rebuild_answers =
    record {
      previous_base = refl;
      previous_version = refl;
      previous_early = refl;
      previous_too_long = refl;
      base_first = refl;
      unsound_first = refl;
      unpackable_first = refl;
      output_short = refl;
    }
