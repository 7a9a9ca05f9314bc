-- The examples of specs/Examples.antt hold: each is computed. Assumes nothing.
use mathlib.Core.Path.{refl}
use Rattle.eit.specs.Chain.{is_chain}
use Rattle.eit.specs.Pools.{choose}
use Rattle.eit.specs.Records.{records_of}
use Rattle.eit.specs.Events.{follows}
use Rattle.eit.specs.Overlap.{overlap}
use Rattle.eit.specs.Sound.{sound}
use Rattle.script.specs.Form.{form_of}
use Rattle.script.specs.Struck.{unstruck_in}
use Rattle.script.specs.Edit.{edit}
use Rattle.script.specs.Examples.{Examples}

pub examples : Examples
unfolding edit form_of unstruck_in sound records_of follows overlap choose is_chain
examples =
    record {
      paper_script = refl;
      operands = refl;
      withdraw_operand = refl;
      put_between = refl;
      withdraw_frees = refl;
      move_re_places = refl;
      move_to_front = refl;
      move_keeps = refl;
      one_more = refl;
      one_less = refl;
      as_many = refl;
      own_start = refl;
      id_zero = refl;
      descriptors = refl;
      undone = refl;
      nearest_struck = refl;
      struck_for_form_only = refl;
      unsound = refl;
      unknown = refl;
      truncated = refl;
      form_first = refl;
      undo_alone = refl;
      nothing_to_strike = refl;
      start_most = refl;
      start_above = refl;
      duration_most = refl;
      duration_above = refl;
      no_duration = refl;
      marks_above = refl;
      range_first = refl;
      outside = refl;
      no_chain = refl;
      other_pool = refl;
      present = refl;
      full = refl;
      at_event_limit = refl;
      below_event_limit = refl;
      absent = refl;
      keeps_the_earlier = refl;
      moved_late = refl;
      moved_absent = refl;
      moved_when_full = refl;
    }
