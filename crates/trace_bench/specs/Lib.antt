-- Promised: public contracts name these.
pub mod Beginning
pub mod Debits
pub mod Forging
pub mod Judging
pub mod Known
pub mod Seeing
pub mod Starting
pub mod Stopping
pub mod Telling
-- What the functions inside say.
pub mod Noting
pub mod Prefixes
pub mod Placed
pub mod Plainly
pub mod RatesTold
