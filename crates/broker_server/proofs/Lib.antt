pub mod PreparedLemmas
pub mod FileLemmas
