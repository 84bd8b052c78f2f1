pub mod Answers
pub mod Noted
