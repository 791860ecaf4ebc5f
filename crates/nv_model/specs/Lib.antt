-- Promised: public contracts name these.
pub mod Bytes
pub mod Meters
pub mod Moments
pub mod Replay
pub mod Media
pub mod Plans
pub mod Memories
pub mod Tallies
pub mod Fuses
pub mod Still
pub mod Calls
-- Laws: lemmas that impls and clauses cite. They promise nothing.
pub mod Laws
