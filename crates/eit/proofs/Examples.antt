-- The examples of specs/Examples.antt hold: each is computed. Assumes nothing.
use mathlib.Core.Path.{refl}
use Rattle.eit.specs.Chain.{is_chain}
use Rattle.eit.specs.Pools.{choose}
use Rattle.eit.specs.Records.{records_of}
use Rattle.eit.specs.Events.{follows}
use Rattle.eit.specs.Sound.{sound, events_of}
use Rattle.eit.specs.Placing.{placing_in}
use Rattle.eit.specs.Examples.{Examples}

pub examples : Examples
unfolding sound events_of records_of follows choose is_chain placing_in
examples =
    record {
      most = refl;
      least = refl;
      id_above = refl;
      start_above = refl;
      no_duration = refl;
      duration_above = refl;
      marks_above = refl;
      outside = refl;
      empty_outside = refl;
      outside_wrapped = refl;
      no_chain = refl;
      long_chain = refl;
      tag_first = refl;
      tag_second = refl;
      tag_last = refl;
      tag_below = refl;
      byte_inside = refl;
      byte_as_length = refl;
      tag_unsound = refl;
      tag_outside = refl;
      touching = refl;
      one_second = refl;
      around = refl;
      same_start = refl;
      longer_earlier = refl;
      ends_late = refl;
      same_id = refl;
      same_id_apart = refl;
      buffer_short = refl;
      events = refl;
      position = (refl, refl);
      place = (refl, refl, refl);
      search_before = refl;
      search_on = refl;
      search_between = refl;
      search_behind = refl;
      search_none = refl;
      search_equal = refl;
      search_falling = refl;
      search_list = (refl, refl);
      search_count = refl;
      search_buffer = (refl, refl);
      numbers = (refl, refl);
      lent_pools_holds = (refl, refl);
      lent_list_holds = (refl, refl);
      marks_bit = refl;
    }
