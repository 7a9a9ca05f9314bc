-- the versions that the code keeps
pub mod VersionLaws
-- the checks of one section are the step of Read's definition
pub mod StepLaws
-- the walk over the sections, one after the other
pub mod WalkLaws
-- where the walk ends: after last_table_id, or early
pub mod EndLaws
