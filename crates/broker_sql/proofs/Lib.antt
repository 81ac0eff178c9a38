pub mod KindLemmas
pub mod StartLemmas
