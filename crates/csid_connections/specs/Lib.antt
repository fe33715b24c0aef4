pub mod Calling
pub mod Replying
pub mod Starting
pub mod Timing
pub mod Waiting
