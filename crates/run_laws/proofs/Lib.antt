pub mod Going
pub mod Sums
