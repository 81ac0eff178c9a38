pub mod Bodies
pub mod InRange
pub mod Issuing
pub mod Paths
pub mod VersionChanges
