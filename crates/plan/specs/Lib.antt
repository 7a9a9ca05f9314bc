-- What program plan writes.
pub mod PlanText  -- the text for a script
pub mod Reading  -- what reading standard input leaves
pub mod Sample  -- document 01's sample
