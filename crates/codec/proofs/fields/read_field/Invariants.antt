-- `codec::fields::read_field`: the value is that of the bytes so far, to the base 256.
use Rattle.std.proofs.Common.{◌≡◌, ◌%◌, ◌^◌, take}
use Rattle.eit.specs.Fields.{value_of}
use Rattle.codec.proofs.fields.read_field.Given as goal

abbrev pub invariant-loop-byte : goal.invariant-loop-byte
invariant-loop-byte l = l.value ≡ value_of (take l.byte-index l.byte-items) % 2 ^ 32
