pub mod Lists
pub mod Order
pub mod Reading
pub mod Firsts
pub mod Steps
pub mod Tables
pub mod Few
pub mod Going
