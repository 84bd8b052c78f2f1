pub mod Appending
pub mod Surveys
pub mod Cycles
pub mod Answered
pub mod Readings
pub mod Rounding
pub mod Cuts
pub mod Amended
pub mod Sufficing
pub mod NeedRows
mod Joined
mod Trials
