-- Promised: public contracts name these.
pub mod Audits
pub mod Between
pub mod Counted
pub mod Fitting
pub mod Imprints
pub mod Prints
pub mod Reads
pub mod Runs
pub mod Verdicts
-- Bookkeeping: private calls and proofs alone name these.
pub mod Places
pub mod Stops
pub mod Takes
pub mod Turns
