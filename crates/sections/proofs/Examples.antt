-- The examples, computed. Assumes nothing.
use mathlib.Core.Path.{refl}
use mathlib.Core.Logic.{⊎_elim}
use native.Mathlib.Omega.{arith}
use Rattle.eit.specs.Crc.{crc32}
use Rattle.eit.specs.Chain.{is_chain}
use Rattle.eit.specs.Events.{follows}
use Rattle.sections.specs.Section.{section_events}
use Rattle.sections.specs.Encode.{file_bytes}
use Rattle.sections.specs.HeaderTests.{is_framed, has_right_crc, is_header, has_right_numbering}
use Rattle.sections.specs.EventTests.{is_event, is_event_loop, is_within_limit}
use Rattle.sections.specs.Count.{sections_counted, events_counted}
use Rattle.sections.specs.Read.{versions_in, read}
use Rattle.sections.specs.Examples.{Examples}
use Rattle.sections.specs.Broken.{Broken}

pub examples : Examples
unfolding read is_framed has_right_crc is_header has_right_numbering is_event is_event_loop is_within_limit crc32 is_chain follows
    file_bytes sections_counted events_counted versions_in
examples =
    record {
      first_sections_holds = (refl, refl, refl, refl, refl, refl);
      tables = (refl, refl);
      firsts = (refl, refl, refl);
      event_bytes_holds = (refl, refl, refl);
      section_bytes_holds = refl;
      one_event = refl;
      answered = refl;
      refused = refl;
      full_accepted = refl;
      marks_read = (refl, refl, refl);
      rival_accepted = refl;
      counted = (refl, refl, refl);
      held = (refl, refl);
      current_next = refl;
      skipped_segment = refl;
      other_segment = refl;
      same_id_apart = refl;
      broken_behind_limit = refl;
      touching = refl;
      overlap = refl;
      buffer_short = refl;
    }

pub broken : Broken
unfolding follows section_events
broken =
    record {
      ninth_section = λ keeps. omega (arith, keeps.eight);
      last_in_segment =
          λ keeps. ⊎_elim (λ same. omega (arith, same)) (λ later. omega (arith, later)) keeps.whole;
      empty_before_other = λ keeps. omega (arith, (keeps.alone refl).last);
      versions_differ =
          λ any keeps.
          let (first, second) = keeps.sections in
          omega (arith, first.header_rules.same_version, second.0.header_rules.same_version);
      earlier_start = λ keeps. keeps.rises;
      one_second = λ keeps. keeps.rises;
      one_second_apart = λ keeps. keeps.rises;
      id_twice = λ keeps. keeps.differ;
      one_too_many = λ keeps. omega (arith, keeps.few);
    }
