pub mod Deposits
pub mod Promises
pub mod Editions
pub mod Bare
