pub mod ArrangingLemmas
pub mod BodyLemmas
pub mod SubcommandLemmas
pub mod WordLemmas
