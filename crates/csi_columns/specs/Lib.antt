pub mod Encoding
pub mod Entries
pub mod facts
