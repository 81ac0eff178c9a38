pub mod Callers
pub mod ClockCalls
pub mod Clocks
pub mod Ended
pub mod Expired
pub mod FirstRows
pub mod UsedIdentifiers
