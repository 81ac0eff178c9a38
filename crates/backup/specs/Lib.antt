pub mod Moved
pub mod Names
