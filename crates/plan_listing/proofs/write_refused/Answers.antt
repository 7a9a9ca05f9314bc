-- `plan_listing::write_refused` meets its contract: the word, and the number behind it. Assumes nothing.
use Rattle.std.proofs.Common.{rules}
use Rattle.plan_listing.proofs.FillLaws.{writes_two}
use Rattle.plan_listing.specs.Listing.{newline, number_then, refused_word, refused_text}
use Rattle.plan_listing.proofs.write_refused.Goals as goal

pub returns : goal.returns
unfolding refused_text
returns c =
    let written = writes_two refused_word (number_then c.args.number newline) c.text.ensures c.number.ensures in
    let (bytes, end) = written.fills in search rules
