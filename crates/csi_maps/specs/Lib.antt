pub mod Compact
pub mod Hashing
pub mod Naming
pub mod Rows
pub mod Stored
pub mod Walking
pub mod facts
