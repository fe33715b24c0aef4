pub mod Configuration
pub mod Faults
pub mod Http2
pub mod Statuses
