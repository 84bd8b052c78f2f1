mod Graphs
pub mod Sound
mod Needs
mod Extending
