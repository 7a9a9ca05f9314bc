-- The examples of specs/OverlapExamples.antt hold: each is computed. Assumes nothing.
use mathlib.Core.Path.{refl}
use Rattle.eit.specs.Chain.{is_chain}
use Rattle.eit.specs.Pools.{choose}
use Rattle.eit.specs.Records.{records_of}
use Rattle.eit.specs.Events.{follows}
use Rattle.eit.specs.Overlap.{overlap}
use Rattle.eit.specs.Sound.{sound}
use Rattle.script.specs.Form.{form_of}
use Rattle.script.specs.Struck.{unstruck_in}
use Rattle.script.specs.Edit.{edit}
use Rattle.script.specs.OverlapExamples.{OverlapExamples}

pub overlap_examples : OverlapExamples
unfolding edit form_of unstruck_in sound records_of follows overlap choose is_chain
overlap_examples =
    record {
      touching = refl;
      one_second_before = refl;
      one_second_behind = refl;
      around = refl;
      inside = refl;
      same_start = refl;
      moved_onto = refl;
      moved_one_second = refl;
      moved_back = refl;
      moved_touching = refl;
      moved_over_itself = refl;
      moved_longer = refl;
      range_first = refl;
      moved_range_first = refl;
      chain_first = refl;
      id_first = (refl, refl);
      when_full = refl;
      keeps_the_earlier = refl;
    }
