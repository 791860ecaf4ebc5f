-- Promised: public contracts name these.
pub mod Lines
pub mod Words
