pub mod Sizes
pub mod Walked
pub mod Copied
