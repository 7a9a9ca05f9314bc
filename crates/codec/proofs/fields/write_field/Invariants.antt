-- `codec::fields::write_field`: from the last byte on backwards, what is written is the field of the digits taken off.
use Rattle.std.proofs.Common.{◌≡◌, ◌+◌, ◌-◌, ◌/◌, ◌^◌, ◌≤◌, length}
use Rattle.eit.specs.Fields.{big_endian}
use Rattle.eit.specs.Overwrite.{overwrite}
use Rattle.codec.proofs.fields.write_field.Given as goal

abbrev pub invariant-loop-left : goal.invariant-loop-left
invariant-loop-left l =
    (l.at + l.width ≤ length l.fn.out)
    × (l.left ≤ l.width)
    × (length l.out ≡ length l.fn.out)
    × (l.out ≡ overwrite l.fn.out (l.at + l.left) (big_endian (l.width - l.left) l.value))
    × (l.rest ≡ l.value / 256 ^ (l.width - l.left))
