pub mod Accepting
pub mod Entries
pub mod Marked
pub mod Tells
pub mod Plans
