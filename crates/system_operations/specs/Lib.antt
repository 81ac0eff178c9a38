pub mod InRange
pub mod Rewrapping
