pub mod Fields
pub mod Views
pub mod Schema
pub mod Canon
pub mod Kept
pub mod facts
