-- A function of numbers in a row, and the lowest number in a row that has a property. Assumes nothing.
use Rattle.std.specs.Prelude.{ℕ, zero, suc, Bool, true, false, List, [], ◌∷◌}
use Rattle.std.proofs.Math.Option.{Option, none, some}

-- f of n numbers, from `least` on
unfoldable pub each : {A : Type 0} → (ℕ → A) → ℕ → ℕ → List A
each f least zero = []
each f least (suc n) = f least ∷ each f (suc least) n

-- the lowest of n numbers, from `least` on, that passes a test
unfoldable pub lowest : (ℕ → Bool) → ℕ → ℕ → Option ℕ
lowest p least zero = none
lowest p least (suc n) = elim (p least) [ true ↦ some least | false ↦ lowest p (suc least) n ]
