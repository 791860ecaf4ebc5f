mod Made
mod Openings
mod PrinterFaults
mod Switching
pub mod Releasing
pub mod Telling
pub mod Acts
