pub mod Create
pub mod Delete
pub mod Publish
pub mod Unpublish
pub mod Listing
pub mod Capacity
