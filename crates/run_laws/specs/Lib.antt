-- Promised: public contracts name these.
pub mod Trace
