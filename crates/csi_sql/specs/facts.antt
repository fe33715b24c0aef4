pub mod Compiling
pub mod Failing
pub mod Steps
pub mod Writes
