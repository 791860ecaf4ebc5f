-- Promised: public contracts name these.
pub mod Answers
pub mod ByKeeper
pub mod Courses
pub mod DepartmentLines
pub mod DepartmentsExtension
pub mod Follows
pub mod Fresh
pub mod Heard
pub mod Holds
pub mod Index
pub mod Isolation
pub mod Kept
pub mod Moves
pub mod Passes
pub mod Payload
pub mod Rows
pub mod Ran
pub mod Texts
pub mod View
pub mod Waits
-- Laws: lemmas that impls and clauses cite. They promise nothing.
pub mod LineLaws
