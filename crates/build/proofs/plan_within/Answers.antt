-- `plan_within` meets its contract: the tables of the counts, and 254 everywhere for an unsound list. Assumes nothing.
use Rattle.std.proofs.Common.{sym, ◌∙◌}
use Rattle.build.proofs.PlanLaws.{plan_counted, plan_uncounted}
use Rattle.build.proofs.plan_within.Goals as goal

pub returns-in-Some : goal.returns-in-Some
returns-in-Some c = c.tables_of.ensures ∙ plan_counted _ _ _ (sym c.in-Some.is ∙ c.count_sections.ensures)

pub returns-in-None : goal.returns-in-None
returns-in-None c = plan_uncounted _ _ _ (sym c.in-None.is ∙ c.count_sections.ensures)
