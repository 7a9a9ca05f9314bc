-- `plan::plan_text` meets its contract: the text has room, so that it is written whole (`plan_whole`). Assumes nothing.
use Rattle.plan.proofs.PlanLaws.{plan_whole}
use Rattle.plan.proofs.plan_text.Goals as goal

pub returns : goal.returns
returns c = plan_whole c.args.text.now c.args.script.now c.requires c.write_within.ensures
