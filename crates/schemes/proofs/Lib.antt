pub mod Arms
pub mod Once
