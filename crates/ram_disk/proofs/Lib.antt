pub mod FoundLemmas
pub mod ZeroLemmas
