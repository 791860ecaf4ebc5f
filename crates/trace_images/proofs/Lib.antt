pub mod Outcomes
pub mod Reading
mod HostCells
mod VerifierCells
mod CentreShown
mod DeviceShown
