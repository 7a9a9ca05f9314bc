-- The examples of specs/VersionExamples.antt hold: each is computed. Assumes nothing.
use mathlib.Core.Path.{refl}
use Rattle.eit.specs.Crc.{crc32}
use Rattle.eit.specs.Chain.{is_chain}
use Rattle.eit.specs.Events.{follows}
use Rattle.sections.specs.Section.{version_of}
use Rattle.sections.specs.HeaderTests.{is_framed, has_right_crc, is_header, has_right_numbering}
use Rattle.sections.specs.EventTests.{is_event, is_event_loop, is_within_limit}
use Rattle.sections.specs.Read.{versions_in, read}
use Rattle.sections.specs.VersionExamples.{VersionExamples}

pub version_examples : VersionExamples
unfolding read is_framed has_right_crc is_header has_right_numbering is_event is_event_loop is_within_limit crc32 is_chain follows
    version_of versions_in
version_examples =
    record {
      version_of_holds = (refl, refl, refl);
      two_versions = refl;
      segments_differ = refl;
      later_table_same = refl;
      later_table_differs = refl;
      back_same = refl;
      back_differs = refl;
      back_as_before = refl;
      version_first = refl;
    }
