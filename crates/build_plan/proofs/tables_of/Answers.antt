-- `tables_of` meets its contract: each table is the next thirty-two counts. Assumes nothing.
use Rattle.std.proofs.Common.{◌∙◌, arith}
use Rattle.build_plan.proofs.TableLaws.{tables_are}
use Rattle.build_plan.proofs.tables_of.Goals as goal

pub returns : goal.returns
returns c = c.copy_from_slice.ensures.after ∙ c.as_chunks.ensures.front ∙ tables_are c.args.counts.now (omega arith)
