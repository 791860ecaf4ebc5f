pub mod Kept
pub mod Once
pub mod Sending
pub mod Opening
