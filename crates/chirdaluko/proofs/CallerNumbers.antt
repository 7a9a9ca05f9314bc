-- Which numbers name which caller. Assumes nothing.
use mathlib.Core.Path.{◌≡◌}
use Prim.Native.Nat.{ℕ}
use borrow.Author.Tests.{eq-eqb, ne_eqb}
use Rattle.eit.specs.declared.Caller.TheVariants.{Broadcast, Cable}
use Rattle.chirdaluko.specs.Face.{caller_of}

pub broadcast_named : {n : ℕ} → n ≡ 0 → caller_of n ≡ Broadcast
broadcast_named {n} zero = rw (caller_of, eq-eqb n 0 zero)

pub cable_named : {n : ℕ} → (n ≡ 0 → ⊥) → caller_of n ≡ Cable
cable_named {n} other = rw (caller_of, ne_eqb n 0 other)
