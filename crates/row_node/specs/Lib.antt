-- Promised: contracts of other crates rest on these.
pub mod Tables
pub mod Laws
pub mod Boots
pub mod NodeView
pub mod RunningView
-- Bookkeeping: private calls and proofs alone name these.
pub mod Committed
-- Laws: lemmas that impls and clauses cite. They promise nothing.
pub mod Unique
pub mod Knows
pub mod NodeLaws
pub mod Counts
-- Promised: contracts of other crates rest on these.
pub mod Shows
pub mod Kept
-- Laws: lemmas that impls and clauses cite. They promise nothing.
pub mod ShowsLaws
