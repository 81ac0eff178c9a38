pub mod FlagLemmas
pub mod NumberLemmas
