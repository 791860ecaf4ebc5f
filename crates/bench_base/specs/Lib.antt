-- Promised: public contracts name these.
pub mod Causes
pub mod Jobs
pub mod Kinds
pub mod Ledger
pub mod Memory
pub mod Nodes
pub mod Questions
pub mod Ranges
pub mod Rules
pub mod Scans
pub mod Table
-- Promised: those rest on these.
pub mod Cells
pub mod Events
pub mod Plans
pub mod Replies
pub mod Rows
-- Bookkeeping: private calls and proofs alone name these.
pub mod Padded
