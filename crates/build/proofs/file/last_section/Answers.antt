-- `last_section` meets its contract: the first segment found with sections is the table's last. Assumes nothing.
use Rattle.std.proofs.Common.{◌≡◌, ◌*◌, ◌-◌, arith, sym}
use Rattle.build.proofs.RowLaws.{last_found}
use Rattle.build.proofs.file.last_section.Goals as goal

pub returns-then-sections-gt0 : goal.returns-then-sections-gt0
returns-then-sections-gt0 c =
    let first : c.first_section.result ≡ 8 * (c.loop-segment.segment - 1) =
    omega (arith, c.first_section.ensures, c.loop-segment.auto.segment) in
    rw first
    (sym (last_found _ _ c.loop-segment.invariant c.loop-segment-test.true c.loop-segment.auto.segment
    c.if-sections-gt0.true))
