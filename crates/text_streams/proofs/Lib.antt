mod Streams
pub mod Prefixes
pub mod LowerDigits
