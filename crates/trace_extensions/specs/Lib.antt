-- Promised: public contracts name these.
pub mod ClaimsKept
pub mod ClaimsModel
pub mod DepartmentsHold
pub mod DepartmentsModel
pub mod Fits
pub mod FitsStopped
pub mod Kept
pub mod ManifestModel
pub mod Models
pub mod Places
pub mod Rates
pub mod Runs
pub mod Sides
pub mod StatementModel
pub mod Stops
pub mod Takes
pub mod Words
-- Private calls and proofs alone name these.
pub mod AuditLaws
pub mod Exact
pub mod Steps
pub mod Worlds
