pub mod Opening
pub mod Ready
pub mod Starting
