-- Bookkeeping: private calls and proofs alone name these.
pub mod Centre
pub mod Host
pub mod Newest
pub mod VerifierRows
