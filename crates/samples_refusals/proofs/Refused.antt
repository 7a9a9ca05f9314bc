-- The refusals, computed. Assumes nothing.
use mathlib.Core.Path.{refl}
use Rattle.eit.specs.Crc.{crc32}
use Rattle.eit.specs.Chain.{is_chain}
use Rattle.eit.specs.Events.{follows}
use Rattle.sections.specs.HeaderTests.{is_framed, has_right_crc, is_header, has_right_numbering}
use Rattle.sections.specs.EventTests.{is_event, is_event_loop, is_within_limit}
use Rattle.sections.specs.Read.{versions_in, read}
use Rattle.samples_refusals.specs.Refusals.{Refusals}
use Rattle.samples_refusals.specs.EventRefusals.{EventRefusals}
use Rattle.samples_refusals.specs.OverlapRefusals.{OverlapRefusals}
use Rattle.samples_refusals.specs.VersionRefusals.{VersionRefusals}

pub refusals : Refusals
unfolding read is_framed has_right_crc is_header has_right_numbering is_event is_event_loop is_within_limit crc32 is_chain follows
refusals =
    record {
      base = refl;
      base_most = refl;
      one_byte = refl;
      truncated = refl;
      byte_behind = refl;
      table_below = refl;
      table_above = refl;
      too_short = refl;
      too_long = refl;
      just_fits = refl;
      crc = refl;
      bits_kept = refl;
      high_bits = refl;
      syntax_bit = refl;
      reserved_bits = refl;
      identity_kept = refl;
      service = refl;
      version = refl;
      stream = refl;
      network = refl;
      last_table_below = refl;
      last_table_above = refl;
      last_table_other = refl;
      first_table = refl;
      first_number = refl;
      above_segment_last = refl;
      above_last = refl;
      segment_of_nine = refl;
      last_in_segment = refl;
      skipped_number = refl;
      other_segment_last = refl;
      other_last = refl;
      no_gap = refl;
      other_last_behind = refl;
      table_again = refl;
      skipped_table = refl;
      table_number = refl;
      past_last_table = refl;
    }

pub event_refusals : EventRefusals
unfolding read is_framed has_right_crc is_header has_right_numbering is_event is_event_loop is_within_limit crc32 is_chain follows
event_refusals =
    record {
      event_kept = refl;
      other_table = refl;
      before_base = refl;
      hour_24 = refl;
      no_digit = refl;
      no_duration = refl;
      duration_most = refl;
      minute_60 = refl;
      off_air_holds = refl;
      free = refl;
      running = refl;
      chain = refl;
      no_chain = refl;
      chain_past_end = refl;
      byte_left = refl;
      empty_not_alone = refl;
      empty_second = refl;
      same_start = refl;
      earlier_start = refl;
      same_id = refl;
      limit_held = refl;
      above_limit_early = refl;
      above_limit_next = refl;
      empty_file_holds = refl;
      segment_early = refl;
      table_early = refl;
      last_table_early = refl;
      early_and_short = refl;
      refused_leaves = refl;
    }

pub overlap_refusals : OverlapRefusals
unfolding read is_framed has_right_crc is_header has_right_numbering is_event is_event_loop is_within_limit crc32 is_chain follows
    versions_in
overlap_refusals =
    record {
      section_touching = refl;
      section_overlap = refl;
      sections_touching = refl;
      sections_overlap = refl;
      segments_touching = refl;
      segments_overlap = refl;
      tables_touching = refl;
      tables_overlap = refl;
      inside_touching = refl;
      inside_overlap = refl;
    }

pub version_refusals : VersionRefusals
unfolding read is_framed has_right_crc is_header has_right_numbering is_event is_event_loop is_within_limit crc32 is_chain follows
    versions_in
version_refusals =
    record {
      sixteen_versions = refl;
      segment_same = refl;
      segment_differs = refl;
      segments_same = refl;
      later_table_new = refl;
      second_back_same = refl;
      second_back_as_before = refl;
      again_same = refl;
      again_differs = refl;
      next_table_holds = refl;
      past_last_table = refl;
      crc_first_holds = refl;
      number_alone = refl;
    }
