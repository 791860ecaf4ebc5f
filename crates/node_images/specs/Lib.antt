-- Promised: public contracts name these.
pub mod Cells
pub mod Devices
pub mod Joined
