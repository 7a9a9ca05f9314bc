-- `plan_listing::text::Writer::number` meets its contract: the kit's digits are the number in decimal (`decimal_is`),
-- and the byte that comes after goes behind them. Assumes nothing.
use Rattle.std.proofs.Common.{[], ◌∷◌, ◌∙◌}
use Rattle.plan_listing.proofs.DecimalLaws.{decimal_is}
use Rattle.plan_listing.proofs.FillLaws.{writes_two, writes_same}
use Rattle.plan_listing.specs.Listing.{decimal_of, number_then}
use Rattle.plan_listing.proofs.text.Writer.number.Goals as goal

pub returns : goal.returns
unfolding number_then
returns c =
    let said = c.decimal-n in
    let number = said.ensures.digits ∙ decimal_is c.args.number said.result said.ensures.len in
    writes_two (decimal_of c.args.number) (c.args.after ∷ []) (writes_same number c.text.ensures) c.text-2.ensures
