-- Promised: public contracts name these.
pub mod Payloads
pub mod Cells
pub mod Sound
pub mod NodeView
pub mod CentreView
-- Bookkeeping: private calls and proofs alone name these.
pub mod Places
pub mod Boots
-- Laws: lemmas that impls and clauses cite. They promise nothing.
pub mod Table
