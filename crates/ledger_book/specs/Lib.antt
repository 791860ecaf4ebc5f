-- Promised: public contracts name these.
pub mod Growth
pub mod Views
-- Bookkeeping: private calls and proofs alone name these.
pub mod Carried
pub mod Named
pub mod Sides
