-- Where a start stands among events. Laws: proofs/PlaceLaws.antt. Assumes nothing.
use Rattle.std.specs.Prelude.{ℕ, suc, Bool, true, false, List, [], ◌∷◌, ltb, eqb}
use Rattle.eit.specs.Events.{Event}

-- how many of the first events start before it
abbrev pub earlier : ℕ → List Event → ℕ
earlier start [] = 0
earlier start (e ∷ es) = elim (ltb e.start start) [ true ↦ suc (earlier start es) | false ↦ 0 ]

-- whether the first event starts just then
abbrev pub starts_first : ℕ → List Event → Bool
starts_first start [] = false
starts_first start (e ∷ es) = eqb e.start start
