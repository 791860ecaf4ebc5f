-- Promised: public contracts name these.
pub mod Texts
pub mod Pieces
