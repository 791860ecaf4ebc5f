-- Promised: public contracts name these.
pub mod Centre
pub mod Devices
pub mod Follows
pub mod Host
pub mod Kinds
pub mod Routing
pub mod Tariff
pub mod Verifier
-- Promised: those rest on these.
pub mod Comparing
pub mod Messages
