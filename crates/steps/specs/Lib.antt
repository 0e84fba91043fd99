pub mod Steps
pub mod Walks
pub mod Near
pub mod Writes
