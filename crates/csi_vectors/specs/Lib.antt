pub mod Judging
pub mod Lines
pub mod Running
