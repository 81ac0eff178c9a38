pub mod Counted
pub mod Dates
pub mod Examples
pub mod Grammar
pub mod Groups
pub mod Parts
