pub mod Putting
pub mod Decimals
pub mod Hexes
pub mod Rows
