-- Promised: public contracts name these.
pub mod Standing
