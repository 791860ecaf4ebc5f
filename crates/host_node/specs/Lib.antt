-- Promised: public contracts name these.
pub mod Payloads
pub mod Sound
pub mod NodeView
pub mod HostView
-- Bookkeeping: private calls and proofs alone name these.
pub mod Boots
-- Laws: lemmas that impls and clauses cite. They promise nothing.
pub mod Cells
pub mod Unique
pub mod Table
