pub mod Listing
pub mod Spots
pub mod Stored
pub mod Trees
