pub mod Sends
mod Changed
