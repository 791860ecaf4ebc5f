-- Promised: public contracts name these.
pub mod Grammar
pub mod Keywords
pub mod Programs
pub mod Reading
pub mod Refusals
pub mod Summaries
pub mod Texts
