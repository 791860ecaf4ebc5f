mod Answered
mod Begun
mod Days
mod Debiting
mod Forged
mod Keeping
mod Lifting
mod Nodes
mod Notes
mod OfRates
mod Printing
mod Quiet
pub mod Same
mod Seen
mod Sent
mod Sets
mod Shown
mod Shutting
pub mod Starts
mod Stops
