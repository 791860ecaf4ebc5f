-- Promised: public contracts name these.
pub mod Laws
-- Promised: public contracts name these.
pub mod Places
-- Promised: public contracts name these.
pub mod Nexts
