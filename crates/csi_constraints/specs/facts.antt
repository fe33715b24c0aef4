pub mod Aparts
pub mod Fronts
pub mod Joins
pub mod Keyed
pub mod Rises
pub mod Starts
