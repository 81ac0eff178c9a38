pub mod Askers
pub mod Meant
pub mod Noticing
pub mod Safely
pub mod Stages
pub mod StoreRows
pub mod Wraps
pub use Rattle.records.specs.Transaction
