-- Promised: public contracts name these.
pub mod Marks
pub mod Laws
