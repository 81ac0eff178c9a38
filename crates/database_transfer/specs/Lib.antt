pub mod Imports
pub mod Telling
