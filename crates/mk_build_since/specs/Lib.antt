pub mod Named
pub mod Alike
pub mod Next
pub mod SinceLaws
pub mod Needed
pub mod Adding
