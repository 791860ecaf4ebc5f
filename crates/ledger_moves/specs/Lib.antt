-- Promised: public contracts name these.
pub mod Histories
pub mod Moves
pub mod Tariffs
-- Promised: those rest on these.
pub mod Devices
