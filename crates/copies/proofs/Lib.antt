pub mod Copied
pub mod Walked
pub mod Fields
pub mod Laid
pub mod Rewritten
pub mod Writers
pub mod Measured
