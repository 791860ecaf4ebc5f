-- Promised: public contracts name these.
pub mod Orders
-- Promised: public contracts name these.
pub mod States
