-- Promised: public contracts name these.
pub mod Printing
pub mod Turns
-- Promised: those rest on these.
pub mod Adds
pub mod Costs
pub mod NodeTurns
-- Private contracts name this.
pub mod Calling
