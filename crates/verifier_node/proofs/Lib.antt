pub mod Blank
pub mod Booted
pub mod Fits
pub mod Indexing
pub mod Reading
pub mod Takes
