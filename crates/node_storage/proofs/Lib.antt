pub mod Rests
pub mod Booted
pub mod Called
pub mod Runs
pub mod Armed
pub mod Fails
pub mod Wrote
