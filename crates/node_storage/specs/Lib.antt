-- Promised: public contracts name these.
pub mod Ends
pub mod Does
pub mod Shown
pub mod Starts
pub mod Calls
-- Promised: those rest on these.
pub mod Stands
pub mod Performed
pub mod Runs
