-- The rows of specs/VersionRows.antt hold: each is computed. Assumes nothing.
use mathlib.Core.Path.{refl}
use Rattle.eit.specs.Crc.{crc32}
use Rattle.eit.specs.Chain.{is_chain}
use Rattle.eit.specs.Pools.{choose}
use Rattle.eit.specs.Records.{records_of}
use Rattle.eit.specs.Events.{follows}
use Rattle.eit.specs.Sound.{sound, events_of}
use Rattle.sections.specs.Section.{version_of}
use Rattle.sections.specs.Encode.{file_bytes}
use Rattle.sections.specs.Decode.{split_events, split_file}
use Rattle.sections.specs.HeaderTests.{is_framed, has_right_crc, is_header, has_right_numbering}
use Rattle.sections.specs.EventTests.{is_event, is_event_loop, is_within_limit}
use Rattle.sections.specs.Read.{versions_in, check_file}
use Rattle.schedule.specs.SectionsOf.{sections_of}
use Rattle.schedule.specs.Build.{build}
use Rattle.schedule.specs.Rebuild.{rebuild}
use Rattle.schedule.specs.ExampleLists.{row}
use Rattle.samples_proved.specs.SampleLists.{chain_of}
use Rattle.samples_proved.specs.VersionRows.{VersionRows}

pub version_rows : VersionRows
unfolding rebuild build check_file split_file split_events is_framed has_right_crc is_header has_right_numbering is_event
    is_event_loop is_within_limit versions_in sections_of file_bytes sound events_of records_of follows choose is_chain crc32
    version_of chain_of row
version_rows =
    record {
      title_kept = refl;
      title_changed = refl;
      both_callers = (refl, refl);
      rival_cuts = refl;
      rival_longer = refl;
      between_gone = refl;
      other_segment = refl;
      other_table = refl;
      no_events = refl;
      previous_cut = refl;
      previous_crc = refl;
      previous_numbering = refl;
      previous_overlap = refl;
      previous_tag = refl;
      previous_other_day = refl;
      previous_empty = refl;
      previous_limit = refl;
      previous_1025 = refl;
    }
