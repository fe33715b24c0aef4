pub mod Copying
