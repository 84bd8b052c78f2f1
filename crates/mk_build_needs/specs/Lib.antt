pub mod Needs
pub mod NeedsGraph
pub mod Extending
pub mod Laws
