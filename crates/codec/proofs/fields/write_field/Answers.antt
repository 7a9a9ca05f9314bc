-- `codec::fields::write_field` meets its contract: what does not fit leaves all as it was, and a turn writes the next
-- digit before those that are written. Assumes nothing.
use Rattle.std.proofs.Common.{◌≡◌, ◌<◌, length, arith}
use mathlib.Core.Path.{sym, ap}
use lib.ListN.{length-set}
use mathlib.Core.Bool.{not}
use Rattle.eit.specs.Fields.{big_endian}
use Rattle.eit.proofs.Fields.{big_endian_length}
use Rattle.codec.proofs.WriteLaws.{is_outside, write_short}
use Rattle.codec.proofs.FieldLaws.{write_more, rest_less}
use Rattle.codec.proofs.fields.write_field.Goals as goal

pub returns-then-not-is_within : goal.returns-then-not-is_within
returns-then-not-is_within c =
    let a = c.args in
    let size : length (big_endian a.width a.value) ≡ a.width = big_endian_length a.width a.value in
    let outside = is_outside a.at a.width (length a.out.now) c.is_within.ensures (ap not c.if-not-is_within.true) in
    sym (write_short a.out.now a.at (big_endian a.width a.value) (omega arith))

pub loop-left-preserved : goal.loop-left-preserved
loop-left-preserved c =
    let a = c.args in
    let turn = c.loop-left in
    let out = a.out.now in
    let some : 0 < turn.left = omega arith in
    let fits = turn.invariant.0 in
    let inside = turn.invariant.1 in (
      fits,
      omega arith,
      simp length-set turn.invariant.2,
      write_more out a.at a.width a.value turn.left fits some inside turn.invariant.3 turn.invariant.4,
      rest_less out a.at a.width a.value turn.left fits some inside turn.invariant.4,
    )
