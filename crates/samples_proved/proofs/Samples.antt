-- The samples hold: each is computed, the two longest each by itself. Assumes nothing.
use mathlib.Core.Path.{◌≡◌, refl}
use Prim.Native.Nat.{◌+◌, ◌*◌}
use mathlib.Core.List.{[]}
use Rattle.eit.specs.Sizes.{section_overhead}
use Rattle.eit.specs.Crc.{crc32}
use Rattle.eit.specs.Chain.{is_chain}
use Rattle.eit.specs.Pools.{choose}
use Rattle.eit.specs.Records.{records_of}
use Rattle.eit.specs.Events.{follows}
use Rattle.eit.specs.Sound.{sound, events_of}
use Rattle.script.specs.Form.{form_of}
use Rattle.script.specs.Struck.{unstruck_in}
use Rattle.script.specs.Edit.{edit}
use Rattle.sections.specs.Section.{version_of, event_overhead}
use Rattle.schedule.specs.Plan.{plan}
use Rattle.schedule.specs.Build.{build}
use Rattle.schedule.specs.ExampleLists.{row, plain_events}
use Rattle.calendar.specs.Date.{date_of}
use Rattle.samples_proved.specs.SampleLists.{chain_of}
use Rattle.samples_proved.specs.SampleCalls.{answer}
use Rattle.samples_proved.specs.Samples.{Samples}

plain_339 : answer (plain_events 0 339)
    ≡ record { number = 11; value = section_overhead + 339 * event_overhead; output = [] }
unfolding build sound events_of records_of follows choose is_chain row
plain_339 = refl

plain_340 : answer (plain_events 0 340)
    ≡ record { number = 11; value = 2 * section_overhead + 340 * event_overhead; output = [] }
unfolding build sound events_of records_of follows choose is_chain row
plain_340 = refl

pub samples : Samples
unfolding build plan edit form_of unstruck_in sound events_of records_of follows choose is_chain crc32 version_of chain_of row
    date_of
samples =
    record {
      day = refl;
      date = refl;
      date_later = refl;
      lasting = refl;
      date_built = refl;
      date_later_built = refl;
      segment_end = refl;
      segment_end_plan = refl;
      segment_end_build = refl;
      segment_next = refl;
      segment_next_plan = refl;
      segment_next_build = refl;
      table_end = refl;
      table_end_plan = refl;
      table_end_build = refl;
      table_next = refl;
      table_next_numbers = refl;
      table_next_plan = refl;
      table_next_build = refl;
      table_next_first = refl;
      table_next_second = refl;
      start_most = refl;
      start_most_plan = refl;
      start_most_build = refl;
      start_most_put = refl;
      start_above_put = refl;
      no_events = refl;
      no_events_late = refl;
      no_events_crc = refl;
      no_events_cuts = refl;
      no_events_plan = refl;
      chain_fits = refl;
      chain_fits_plan = refl;
      chain_fits_build = refl;
      chain_above_plan = refl;
      chain_above_build = refl;
      chains_above_plan = refl;
      chains_above_build = refl;
      two_fit = refl;
      two_fit_plan = refl;
      two_fit_build = refl;
      two_apart = refl;
      two_apart_plan = refl;
      two_apart_build = refl;
      many_fit = refl;
      many_fit_plan = refl;
      many_fit_build = plain_339;
      one_more = refl;
      one_more_plan = refl;
      one_more_build = plain_340;
      eight = refl;
      eight_plan = refl;
      eight_build = refl;
      nine_plan = refl;
      nine_build = refl;
      undone = refl;
      undo_alone = refl;
    }
