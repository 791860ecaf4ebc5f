-- Promised: public contracts name these.
pub mod Answers
pub mod Causes
pub mod CheckerDesk
pub mod Courses
pub mod Fresh
pub mod Held
pub mod Holds
pub mod Listings
pub mod ManifestLines
pub mod Moves
pub mod Ran
pub mod Texts
pub mod View
pub mod Waits
pub mod Wanting
-- Laws: lemmas that impls and clauses cite. They promise nothing.
pub mod LineLaws
