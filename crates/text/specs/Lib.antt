pub mod Ascii
pub mod Puts
pub mod Text
