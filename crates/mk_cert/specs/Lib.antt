pub mod Checks
pub mod Cursor
pub mod Laws
pub mod Seen
pub mod Verdict
pub mod WalkTables
pub mod Walking
