pub mod Arms
pub mod Items
pub mod Once
