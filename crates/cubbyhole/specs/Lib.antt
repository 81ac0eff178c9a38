pub mod Cubbyhole
pub mod CubbyholeLaws
pub mod Laws
pub mod ObjectLaws
pub mod Objects
pub mod SoundLaws
pub mod Words
