-- Promised: public contracts name it.
pub mod Files
-- Promised: it rests on this.
pub mod Ranges
-- Promised: public contracts name it.
pub mod Starts
pub mod Aheads
