-- Promised: public contracts name these.
pub mod Changes
pub mod Images
pub mod Sound
pub mod Sources
-- Bookkeeping: private calls and proofs alone name these.
pub mod Walks
