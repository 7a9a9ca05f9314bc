-- The examples of specs/Examples.antt hold: each is computed. Assumes nothing.
use mathlib.Core.Path.{refl}
use Rattle.packing.specs.Greedy.{reach, greedy}
use Rattle.packing.specs.OnePass.{added}
use Rattle.packing.specs.Examples.{Examples}

pub examples : Examples
unfolding reach greedy added
examples =
    record {
      fills = refl;
      parts = refl;
      reached = refl;
      packable = refl;
      part_short = refl;
      too_large = refl;
      pass = refl;
      pass_short = refl;
      pass_large = refl;
    }
