-- `least_behind` meets its contract: in 64 bits the sum is that of the definition. Assumes nothing.
use Rattle.std.proofs.Common.{◌≡◌, ℕ, ◌+◌, zero, suc, max, arith, nat_eq}
use Prim.Native.Nat.{max}
use mathlib.Core.Path.{ap}
use mir.Val.{bool_byte}
use Rattle.eit.specs.Events.{least_behind}
use Rattle.eit.proofs.Test.{false_is, ne_test}
use Rattle.eit.proofs.least_behind.Goals as goal

-- a duration of 0 counts as 1
at_least_one : (start duration : ℕ) → start + duration + bool_byte (nat_eq duration 0) ≡ start + max 1 duration
at_least_one start zero = omega arith
at_least_one start (suc n) =
    omega (arith, ap bool_byte (false_is (nat_eq (suc n) 0) (ne_test (suc n) 0 (λ e. omega arith))))

pub returns : goal.returns
unfolding least_behind
returns c = at_least_one c.args.event.start c.args.event.duration
