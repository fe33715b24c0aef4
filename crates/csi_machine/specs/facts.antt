pub mod Numbers
pub mod Pages
