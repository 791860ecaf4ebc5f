-- Promised: public contracts name these.
pub mod Newest
-- Laws: lemmas that clauses cite. They promise nothing.
pub mod Cells
