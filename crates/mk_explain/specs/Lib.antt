pub mod Known
pub mod Texts
pub mod Explain
pub mod Laws
pub mod Near
