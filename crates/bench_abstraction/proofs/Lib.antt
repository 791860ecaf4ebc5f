mod Acts
pub mod Asked
pub mod Calling
pub mod CentreCalls
mod CentreCommits
mod CentreCounts
pub mod CentreRows
mod Counts
pub mod Events
mod Following
mod Frames
mod Genuine
mod Histories
pub mod HostCalls
mod HostCommits
pub mod Plans
pub mod Quiet
pub mod RatesPlans
pub mod Shown
pub mod Steps
pub mod Sent
mod VerifierCalls
pub mod Views
