pub mod Numbers
pub mod Lines
pub mod Turns
pub mod Verdicts
pub mod Statements
mod Answering
