-- Promised: public contracts name these.
pub mod Dates
pub mod Grace
