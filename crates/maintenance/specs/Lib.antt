pub mod Choosing
pub mod Maintained
pub mod NewRoot
pub mod Tasks
