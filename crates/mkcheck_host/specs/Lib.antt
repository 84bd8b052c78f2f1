pub mod Outcome
pub mod Opening
pub mod Disk
pub mod Reading
pub mod Writing
pub mod Ending
pub mod Causes
