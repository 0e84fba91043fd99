pub mod Lists
pub mod Items
