pub mod Breaking
pub mod Frames
pub mod Fronts
