pub mod DueEntries
pub mod Ended
pub mod Names
pub mod Responses
