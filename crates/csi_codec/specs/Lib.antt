pub mod Reading
pub mod messages
pub mod Methods
pub mod Listing
pub mod Created
pub mod facts
