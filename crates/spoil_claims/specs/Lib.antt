-- Promised: public contracts name these.
pub mod Answers
pub mod ClaimLines
pub mod ClaimsDesk
pub mod Claims
pub mod Courses
pub mod Follows
pub mod Fresh
pub mod Holds
pub mod Moves
pub mod Payload
pub mod Ran
pub mod Storage
pub mod Texts
pub mod View
pub mod Waits
-- Laws: lemmas that impls and clauses cite. They promise nothing.
pub mod LineLaws
