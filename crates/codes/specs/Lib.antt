pub mod Codes
pub mod Digests
pub mod Answers
