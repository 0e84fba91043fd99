pub mod Arms
pub mod Digests
pub mod Once
