pub mod Calls
pub mod Done
pub mod Printed
pub mod Switched
pub mod Saying
