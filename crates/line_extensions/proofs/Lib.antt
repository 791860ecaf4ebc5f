mod Asking
mod Doing
pub mod Texts
pub mod Wanting
pub mod Lines
pub mod Stores
pub mod Moving
