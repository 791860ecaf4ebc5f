pub mod Answering
pub mod Backing
mod Blank
pub mod Following
pub mod Holding
mod Keeping
mod Meanwhile
pub mod Numbers
mod Payloads
pub mod Reading
mod Running
mod Stopping
