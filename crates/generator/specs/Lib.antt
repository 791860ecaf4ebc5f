-- Promised: public contracts name these.
pub mod Draws
pub mod Events
pub mod Given
pub mod Opening
pub mod Parts
pub mod Turns
