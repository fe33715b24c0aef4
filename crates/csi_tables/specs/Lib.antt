pub mod Answers
pub mod Holding
pub mod Keeping
pub mod Laws
pub mod Places
pub mod Reading
pub mod Refusing
pub mod facts
