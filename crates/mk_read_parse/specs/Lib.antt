pub mod KindViews
pub mod MemFiles
pub mod Requests
pub mod Views
