pub mod Json
pub mod Converted
pub mod Turns
pub mod OtherKinds
pub mod Put
pub mod Arrays
