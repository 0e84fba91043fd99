pub mod Sizes
pub mod Enough
pub mod Rows
