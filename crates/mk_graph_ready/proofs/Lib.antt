pub mod Lists
pub mod Users
pub mod Stepping
pub mod Standing
pub mod Blocks
