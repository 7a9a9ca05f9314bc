-- `places::set_place` meets its contract: the bit is taken out and put in (`bit_told`), and a place for which there is
-- no word changes nothing (`place_outside`). Assumes nothing.
use Rattle.std.proofs.Common.{ℕ, ◌/◌, ◌%◌, ◌^◌, ◌<◌, get_or, arith}
use mathlib.Core.Path.{sym}
use Rattle.edit_scan.specs.Places.{with_place}
use Rattle.edit_scan.proofs.PlaceLaws.{bit_told, place_outside}
use Rattle.edit_scan.proofs.places.set_place.Goals as goal

pub returns-then-k-places : goal.returns-then-k-places
unfolding with_place
returns-then-k-places c =
    let word : ℕ = get_or c.args.places.now (c.args.place / 64) 0 in
    let bit : ℕ = c.args.place % 64 in
    let fits : word < 2 ^ 64 = omega arith in
    rw (bit_told word bit (omega arith) fits c.args.is_in)

pub returns-else-k-places : goal.returns-else-k-places
returns-else-k-places c = sym (place_outside c.args.places.now c.args.place c.args.is_in c.if-k-places.false)
