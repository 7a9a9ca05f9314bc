-- `has_fixed_bits` meets its contract: the fields that were read are the section's. Assumes nothing.
use native.Mathlib.Omega.{arith}
use Rattle.eit.proofs.Fields.{bytes_all}
use Rattle.codec.proofs.FieldLaws.{field_read}
use Rattle.read_checks.proofs.header.has_fixed_bits.Goals as goal

pub returns-then-version-eq3 : goal.returns-then-version-eq3
returns-then-version-eq3 c =
    let bytes = bytes_all c.args.section.now (λ k. (c.type_inv.section k).fits) in
    let version = (field_read c.args.section.now 5 1 bytes (omega arith) c.read_field-version.ensures).0 in
    let word = (field_read c.args.section.now 1 2 bytes (omega arith) c.read_field.ensures).0 in
    rw (← version, ← word) (grind arith)
