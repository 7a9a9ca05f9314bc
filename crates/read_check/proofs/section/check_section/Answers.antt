-- `section::check_section` meets its contract: each check that fails is its refusal, and all together are the way on
-- (`StepLaws`). The tables that 21 is called with are the right ones (`right_crc_by_tables`). Assumes nothing.
use mathlib.Core.Path.{◌≡◌, refl, ap, ◌∙◌}
use mathlib.Core.Bool.{Bool}
use mathlib.Core.List.{List}
use Prim.Native.Nat.{ℕ, ◌+◌, ◌<◌}
use native.Mathlib.Omega.{arith}
use lib.ListN.{get_or}
use Rattle.std.specs.Prelude.{None}
use Rattle.std.proofs.lemmas.Result.{err_from_is_err_and}
use Rattle.eit.proofs.Fields.{bytes_all}
use Rattle.sections.specs.HeaderTests.{has_right_crc}
use Rattle.codec_crc.specs.CrcTables.{right_crc_tables}
use Rattle.read_checks.specs.RightCrc.{has_right_crc_by}
use Rattle.read_checks.proofs.RightCrcLaws.{right_crc_by_tables}
use Rattle.read_answer.specs.declared.ReadError.TheVariants.{Header}
use Rattle.read_check.proofs.StepLaws.{refuses_20, refuses_21, refuses_22, refuses_23, refuses_24, refuses_26}
use Rattle.read_check.proofs.StepLaws.{goes_on}
use Rattle.read_check.proofs.section.check_section.Goals as goal
use Rattle.read_check.proofs.section.check_section.Goals.{then-sizes-found-via-then-sizes-found}
use Rattle.read_check.proofs.section.check_section.Goals.{then-sizes-found-via-else-sizes-found+then-sizes-found-2}

-- 21 by the right tables
by_right : {crc_right : Bool} (tables bs : List ℕ) → crc_right ≡ has_right_crc_by tables bs → tables ≡ right_crc_tables
    → ((k : ℕ) → get_or bs k 0 < 256)
    → crc_right ≡ has_right_crc bs
by_right tables bs made right all =
    made ∙ ap (λ (t : List ℕ). has_right_crc_by t bs) right ∙ right_crc_by_tables bs (bytes_all bs all)

pub returns-then-not-is_framed : goal.returns-then-not-is_framed
returns-then-not-is_framed c p tracks = refuses_20 tracks _ _ _ c.is_framed.ensures c.if-not-is_framed.true

pub returns-then-not-has_right_crc : goal.returns-then-not-has_right_crc
returns-then-not-has_right_crc c p tracks =
    refuses_21 tracks _ _ _ (λ k. (c.type_inv.section k).fits) c.is_framed.ensures c.if-not-is_framed.false
    (by_right _ _ c.has_right_crc.ensures c.entries.ensures (λ k. (c.type_inv.section k).fits)) c.if-not-has_right_crc.true

pub returns-in_err-shown : goal.returns-in_err-shown
returns-in_err-shown c p tracks =
    let none : c.check_header.result ≡ None = c.in_err-shown.ensures.ok_part in
    let value = rw none at c.in_err-shown.ensures.value in
    let is : c.in_err-shown.field-0.0 ≡ Header c.args.offset = cc in
    let exit = err_from_is_err_and c.from_residual.result c.from_residual.ensures.1 in
    rw (exit.1, exit.2, is)
    (refuses_22 tracks _ _ _ (λ k. (c.type_inv.section k).fits) c.is_framed.ensures c.if-not-is_framed.false
    (by_right _ _ c.has_right_crc.ensures c.entries.ensures (λ k. (c.type_inv.section k).fits)) c.if-not-has_right_crc.false
    c.check_header.ensures none)

pub returns-then-not-has_right_numbering : goal.returns-then-not-has_right_numbering
returns-then-not-has_right_numbering c p tracks =
    refuses_23 tracks _ _ _ (λ k. (c.type_inv.section k).fits) c.is_framed.ensures c.if-not-is_framed.false
    (by_right _ _ c.has_right_crc.ensures c.entries.ensures (λ k. (c.type_inv.section k).fits)) c.if-not-has_right_crc.false
    c.check_header.ensures c.in_ok-shown.ensures.ok_part
    c.has_right_numbering.ensures c.if-not-has_right_numbering.true

pub returns-in_default : goal.returns-in_default
returns-in_default c p tracks =
    refuses_24 tracks _ _ _ (λ k. (c.type_inv.section k).fits) c.is_framed.ensures c.if-not-is_framed.false
    (by_right _ _ c.has_right_crc.ensures c.entries.ensures (λ k. (c.type_inv.section k).fits)) c.if-not-has_right_crc.false
    c.check_header.ensures c.in_ok-shown.ensures.ok_part
    c.has_right_numbering.ensures c.if-not-has_right_numbering.false
    (rw c.event_loop-events.ensures at c.in_default.ensures) refl

pub returns-then-sizes-found : goal.returns-then-sizes-found
returns-then-sizes-found c p tracks =
    let many : c.args.sizes.event_limit < c.in-Ok.passed.count + c.args.state.count =
    elim c.then-sizes-found.branch [
      | then-sizes-found-via-then-sizes-found w ↦ omega arith
      | then-sizes-found-via-else-sizes-found+then-sizes-found-2 w ↦ omega arith
    ] in
    refuses_26 tracks _ _ _ (λ k. (c.type_inv.section k).fits) c.is_framed.ensures c.if-not-is_framed.false
    (by_right _ _ c.has_right_crc.ensures c.entries.ensures (λ k. (c.type_inv.section k).fits)) c.if-not-has_right_crc.false
    c.check_header.ensures c.in_ok-shown.ensures.ok_part
    c.has_right_numbering.ensures c.if-not-has_right_numbering.false
    (rw c.event_loop-events.ensures at c.in-Ok.ensures) refl many

pub returns : goal.returns
returns c p tracks =
    rw c.set_version.ensures
    (goes_on tracks _ _ _ (λ k. (c.type_inv.section k).fits) c.is_framed.ensures c.if-not-is_framed.false
    (by_right _ _ c.has_right_crc.ensures c.entries.ensures (λ k. (c.type_inv.section k).fits)) c.if-not-has_right_crc.false
    c.check_header.ensures c.in_ok-shown.ensures.ok_part
    c.has_right_numbering.ensures c.if-not-has_right_numbering.false
    (rw c.event_loop-events.ensures at c.in-Ok.ensures) refl (omega arith))
