pub mod Findings
pub mod Naming
