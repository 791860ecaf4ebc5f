pub mod Shown
pub mod Devices
pub mod Join
