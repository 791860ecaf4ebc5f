-- Promised: public contracts name these.
pub mod OwnLines
pub mod Changes
pub mod Watching
pub mod Desk
pub mod Texts
pub mod Courses
pub mod Movements
pub mod Fresh
pub mod StatementsDesk
pub mod Ran
pub mod Balances
-- Bookkeeping: private calls and proofs alone name these.
pub mod Room
-- Laws: lemmas that impls and clauses cite. They promise nothing.
pub mod OwnLaws
