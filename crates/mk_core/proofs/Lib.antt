pub mod Seen
pub mod Faults
pub mod Answering
pub mod Finding
pub mod Simulating
pub mod Builds
pub mod Promising
