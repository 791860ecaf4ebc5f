-- Promised: public contracts name these.
pub mod Lines
pub mod Places
pub mod Verdicts
pub mod Statements
pub mod Runs
-- Bookkeeping: private calls and proofs alone name these.
pub mod Reading
pub mod Turns
