pub mod Fakes
pub mod Holding
pub mod Kept
pub mod Restoring
