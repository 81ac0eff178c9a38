pub mod AccessorRows
pub mod DueResponses
pub mod Laws
pub mod ResponseLaws
pub mod SoundLaws
pub mod WaitingRows
pub mod Words
pub mod Wrapping
