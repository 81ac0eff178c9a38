pub mod KindWords
pub mod Layouts
pub mod Lines
pub mod Spelled
