pub mod HexDigits
pub mod Numbers
pub mod Splits
