-- The test of all versions is the definition's, version by version. Assumes nothing.
use mathlib.Core.Path.{◌≡◌, refl, ap}
use mathlib.Core.Bool.{Bool, ◌&&◌}
use mathlib.Core.List.{List, [], ◌∷◌}
use Prim.Native.Nat.{ℕ}
use lib.Dec.{leb}
use Rattle.std.specs.List.{list_all}
use Rattle.eit.specs.Limits.{version_max}
use Rattle.schedule.specs.Build.{are_versions}

pub versions_all : (versions : List ℕ) → list_all (λ version. leb version version_max) versions ≡ are_versions versions
versions_all [] = refl
versions_all (version ∷ versions) = ap (λ (b : Bool). leb version version_max && b) (versions_all versions)
