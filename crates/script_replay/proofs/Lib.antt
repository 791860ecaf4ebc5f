mod Answering
mod Calling
pub mod Chains
mod Completing
mod Counting
mod OneLine
mod Faults
mod Generating
mod Headlines
mod Outside
mod Printing
mod Replying
mod Reports
mod Running
mod Sides
mod Moments
pub mod Nothing
mod Stores
pub mod Whiles
