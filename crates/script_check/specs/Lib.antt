-- Promised: public contracts name these.
pub mod Checks
pub mod Texts
pub mod Wrong
-- For this crate alone.
pub mod Forms
pub mod Slots
-- Bookkeeping: private calls and proofs alone name these.
pub mod Turns
