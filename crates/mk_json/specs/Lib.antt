pub mod Kinds
pub mod Steps
pub mod Reading
pub mod Tokens
pub mod Laws
