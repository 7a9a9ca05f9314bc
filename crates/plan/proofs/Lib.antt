-- the text, case by case
pub mod PlanLaws
-- document 01's sample, computed
pub mod Examples
