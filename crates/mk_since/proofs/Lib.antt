pub mod Deciding
pub mod Naming
pub mod Targets
pub mod Doubting
