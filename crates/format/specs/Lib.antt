pub mod Kinds
pub mod Numbers
pub mod Refused
pub mod Editions
pub mod EditionKinds
pub mod Sizes
pub mod Samples
