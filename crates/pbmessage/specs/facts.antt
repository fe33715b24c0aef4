pub mod Laws
pub mod Fields
pub mod Offsets
pub mod Views
pub mod Rows
pub mod Parts
pub mod Writing
