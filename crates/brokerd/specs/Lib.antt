pub mod CommandLine
pub mod Exits
