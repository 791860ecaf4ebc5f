pub mod Booted
pub mod Fits
pub mod Seen
