pub mod Bools
pub mod Lists
pub mod Texts
pub mod Results
pub mod Members
