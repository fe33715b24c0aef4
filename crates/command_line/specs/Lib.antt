pub mod Lines
pub mod Sizes
pub mod Statuses
pub mod Words
