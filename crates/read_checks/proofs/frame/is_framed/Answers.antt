-- `is_framed` meets its contract: the table that was read is that of the first byte. Assumes nothing.
use native.Mathlib.Omega.{arith}
use Rattle.eit.proofs.Fields.{bytes_all}
use Rattle.sections.specs.HeaderTests.{is_framed}
use Rattle.codec.proofs.FieldLaws.{field_read}
use Rattle.read_checks.proofs.frame.is_framed.Goals as goal

pub returns-then-size-sizes : goal.returns-then-size-sizes
unfolding is_framed
returns-then-size-sizes c =
    let bytes = bytes_all c.args.section.now (λ k. (c.type_inv.section k).fits) in
    let table = (field_read c.args.section.now 0 1 bytes (omega arith) c.read_field.ensures).0 in
    rw (is_framed, ← table) (grind arith)
