pub mod Parts
pub mod Items
