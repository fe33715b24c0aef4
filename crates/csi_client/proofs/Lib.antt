pub mod Gathering
pub mod Paths
pub mod Pauses
pub mod Printing
pub mod Statuses
