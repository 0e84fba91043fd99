pub mod Calls
pub mod Forms
pub mod Rows
pub mod Said
