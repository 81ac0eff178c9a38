pub mod Revoked
pub mod TokenEntries
pub mod TokenMaking
pub mod TokenRanges
pub mod TokenSets
pub use Rattle.records.specs.Transaction
