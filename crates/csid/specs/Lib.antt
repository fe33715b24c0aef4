pub mod Leading
pub mod Reading
pub mod Serving
