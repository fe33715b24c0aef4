pub mod Copying
pub mod Through
