pub mod Blank
mod Booted
pub mod Kept
