pub mod CommandLine
pub mod Invocation
