-- `passed_in` meets its contract: what is passed is what stands before the first entry of a later start. Assumes
-- nothing.
use Rattle.std.proofs.Common.{ℕ, Option, length, ap, ◌∙◌, arith}
use Rattle.std.specs.Option.{unwrap_or}
use Rattle.edit_index.proofs.SearchLaws.{later_from}
use Rattle.edit_index.proofs.search.passed_in.Goals as goal

pub returns : goal.returns
returns c =
    c.unwrap_or.ensures
    ∙ ap (λ (o : Option ℕ). unwrap_or o (length c.args.entries.now)) c.first_from.ensures
    ∙ later_from c.args.start c.args.entries.now _ (omega arith)
