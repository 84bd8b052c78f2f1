pub mod Faults
pub mod FaultText
pub mod GraphText
pub mod VerdictText
pub mod Appending
pub mod Causes
