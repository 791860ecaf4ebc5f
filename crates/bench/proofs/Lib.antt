mod Answered
mod AskedNodes
mod Begun
mod Blank
mod BlankCentre
mod BlankHost
mod BlankVerifier
mod Called
mod Calls
mod CentreActs
mod Charges
mod Compares
mod DeviceActs
pub mod EachKind
pub mod EachStore
pub mod Events
mod HostActs
pub mod Left
pub mod Making
mod NodeEvents
pub mod Notes
mod OneNode
mod OneTurn
mod Over
mod Quiet
mod RatesTurns
mod Sets
mod Stops
mod Unprinted
mod VerifierActs
