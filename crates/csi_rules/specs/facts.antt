pub mod Capability
pub mod Choice
pub mod Finding
pub mod Ids
