pub mod Reads
pub mod Ends
pub mod Runs
