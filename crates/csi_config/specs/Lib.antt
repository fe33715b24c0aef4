pub mod Faults
pub mod Sample
pub mod Values
