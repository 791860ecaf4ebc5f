-- Promised: public contracts name these.
pub mod Centres
pub mod Requests
pub mod Rulings
pub mod Sums
-- Promised: those rest on these.
pub mod Devices
pub mod Franking
pub mod InFlight
-- Promised: public contracts name these.
pub mod Editions
pub mod Lawful
-- Promised: those rest on these.
pub mod Further
pub mod Links
pub mod Sane
