mod Looking
mod Cancelling
mod Reading
mod Existing
mod Longer
mod Printable
