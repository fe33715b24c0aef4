pub mod Keys
pub mod Writing
