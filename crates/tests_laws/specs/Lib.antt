-- Promised: public contracts name these.
pub mod Worked
-- Promised: those rest on these.
pub mod Rows
pub mod TodayRows
pub mod Runs
