pub mod Atomic
pub mod Found
pub mod HonestLaws
pub mod Prepared
pub mod SqlKept
