pub mod Damaged
pub mod Members
pub mod Onto
