-- What one section takes of some events (01, "Build, Read": "each section takes as many of the segment's next events as
-- fit"). Laws: proofs/CutLaws.antt. Assumes nothing.
use Rattle.std.specs.Prelude.{ℕ, ◌+◌, List, take}
use Rattle.eit.specs.Events.{Event}
use Rattle.packing.specs.Greedy.{fit}
use Rattle.sections.specs.Section.{event_size, event_sizes}
use Rattle.build_counts.specs.declared.cut.Cut.{Cut}

-- the place behind them, the first standing at `from`, and their bytes
abbrev pub cut_of : ℕ → ℕ → List Event → Cut
cut_of from room es =
    let n = fit event_size room es in
    record { to = from + n; bytes = event_sizes (take n es) }
