-- Promised: public contracts name these.
pub mod Turns
pub mod RingView
pub mod Mounts
