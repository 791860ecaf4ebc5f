pub mod Bytes
pub mod Runs
pub mod WorkedFunds
pub mod WorkedPath
pub mod WorkedRefusals
pub mod WorkedToday
