-- The events that a writer of sections holds. Assumes nothing.
use Rattle.std.specs.Prelude.{ℕ, List}
use Rattle.eit.specs.Records.{records_in}
use Rattle.eit.specs.Events.{Event, events_in}
use Rattle.build_counts.specs.Between.{events_between}
use Rattle.build.specs.declared.section.Writer.{Writer}

-- those of its list from place `from` up to place `end`
abbrev pub held : Writer → ℕ → ℕ → List Event
held w from end = events_between w.pools.now w.list.now from end

-- all of a list of so many
abbrev pub all_held : Writer → ℕ → List Event
all_held w count = events_in w.pools.now (records_in count w.list.now)
