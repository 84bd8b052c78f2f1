pub mod Rest
pub mod Stage
pub mod RemainingGroups
pub mod Blocks
pub mod Layout
pub mod Progress
pub mod Stages
pub mod State
