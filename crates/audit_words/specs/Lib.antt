-- Promised: public contracts name these.
pub mod Calls
pub mod Shown
