pub mod Now
pub mod NowReading
pub mod NowWriting
pub mod Reading
pub mod Writing
