pub mod Ranges
pub mod Bits
pub mod Values
pub mod Choices
pub mod Digests
pub mod Once
