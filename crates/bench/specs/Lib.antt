-- Promised: public contracts name these.
pub mod Benches
pub mod Outside
pub mod Places
pub mod Steps
-- Promised: those rest on these.
pub mod Costs
-- Bookkeeping: private calls and proofs alone name these.
pub mod Calls
pub mod Comparing
