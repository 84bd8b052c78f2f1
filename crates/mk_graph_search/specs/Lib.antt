pub mod Ways
pub mod Places
pub mod Progress
pub mod Visits
pub mod Laws
