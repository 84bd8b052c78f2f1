pub mod Disks
pub mod Lines
pub mod Covered
pub mod Anew
