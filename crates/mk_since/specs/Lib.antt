pub mod Doubts
pub mod Past
pub mod Named
pub mod Parts
pub mod Laws
