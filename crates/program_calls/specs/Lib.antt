-- Promised: public contracts name it.
pub mod Calls
-- Promised: public contracts name it.
pub mod Exits
