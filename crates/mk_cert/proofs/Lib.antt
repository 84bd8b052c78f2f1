pub mod Accepted
pub mod Found
pub mod Judged
pub mod OneAnswer
pub mod OwnCertificate
pub mod ReadOf
pub mod Walks
