pub mod Wire
pub mod Reading
pub mod Faults
pub mod Writing
