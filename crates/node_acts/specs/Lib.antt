-- Promised: public contracts name these.
pub mod Views
pub mod Plans
pub mod Results
pub mod Said
-- Promised: those rest on these.
pub mod Acts
pub mod Starts
pub mod Kinds
pub mod RowList
-- Laws: lemmas that impls and clauses cite. They promise nothing.
pub mod RowLaws
-- Promised: public contracts name this.
pub mod Changes
