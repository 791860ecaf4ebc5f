pub mod Coming
pub mod Debits
pub mod Every
pub mod Opened
