pub mod Readings
pub mod FaultLemmas
pub mod Codes
