-- `flat_of` meets its contract: the tables joined are their counts in order. Assumes nothing.
use Rattle.std.proofs.Common.{◌∙◌}
use Rattle.build_plan.proofs.TableLaws.{joined_is}
use Rattle.build_plan.proofs.flat_of.Goals as goal

pub returns : goal.returns
returns c = c.copy_from_slice.ensures.after ∙ c.as_flattened.ensures.value ∙ joined_is c.args.tables
