pub mod Again
pub mod Escape
pub mod Lines
pub mod Live
pub mod Receiving
pub mod Replies
pub mod Showing
