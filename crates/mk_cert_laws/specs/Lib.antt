pub mod Covered
pub mod Disks
pub mod Laws
