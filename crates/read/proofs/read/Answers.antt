-- `read` meets its contract: check decides, then the length of the record buffer. Assumes nothing.
use Rattle.std.proofs.lemmas.Result.{err_from_is_err_and}
use Rattle.eit.specs.Sizes.{sizes_of}
use Rattle.eit.proofs.Numbers.{caller_most}
use Rattle.eit.proofs.Fields.{bytes_all}
use Rattle.read.proofs.FillableLaws.{accepted_fills, accepted_below}
use Rattle.read.proofs.AnswerLaws.{read_stops, accepted_0, read_27, records_fit, read_fills}
use Rattle.read.proofs.read.Goals as goal

pub returns-in_err-accepted : goal.returns-in_err-accepted
returns-in_err-accepted c =
    let exit = err_from_is_err_and c.from_residual.result c.from_residual.ensures.1 in
    rw (exit.1, exit.2) (read_stops _ _ _ c.args.records.now c.in_err-accepted.field-0.0 c.in_err-accepted.ensures)

pub returns-then-records-accepted : goal.returns-then-records-accepted
returns-then-records-accepted c = read_27 _ _ _ _ c.in_ok-accepted.ensures c.if-records-accepted.true

pub fill_file-requires : goal.fill_file-requires
fill_file-requires c =
    let sizes = sizes_of c.args.caller in
    let base = c.args.base_day in
    let file = c.args.file.now in
    let accepted = accepted_0 sizes base file c.args.records.now c.in_ok-accepted.ensures in
    let bytes = bytes_all file (λ k. (c.type_inv.file k).fits) in (
      accepted_fills sizes base file bytes accepted,
      records_fit sizes base file c.args.records.now c.in_ok-accepted.ensures c.if-records-accepted.false,
      accepted_below sizes base file bytes accepted (caller_most c.args.caller),
    )

pub returns : goal.returns
returns c = read_fills _ _ _ _ c.in_ok-accepted.ensures c.if-records-accepted.false c.fill_file.ensures
