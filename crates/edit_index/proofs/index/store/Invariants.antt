-- At each turn the first i records are written.
use Rattle.std.proofs.Common.{◌≡◌, ℕ, List}
use Rattle.edit_index.specs.Index.{lent_index, stored}
use Rattle.edit_index.proofs.index.store.Given as goal

abbrev pub invariant-loop-i : goal.invariant-loop-i
invariant-loop-i l = (ids : List ℕ) → l.list ≡ stored l.initial.list (lent_index l.slots l.order ids l.count) l.i
