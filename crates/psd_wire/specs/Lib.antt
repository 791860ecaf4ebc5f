-- Promised: public contracts name these.
pub mod Faults
pub mod Grammar
pub mod Laws
-- Promised: those rest on these.
pub mod Codes
