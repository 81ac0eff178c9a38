mod AllLemmas
pub mod FindingLemmas
pub mod NamingLemmas
