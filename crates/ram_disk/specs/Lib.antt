pub mod CleanLaws
pub mod RamFile
