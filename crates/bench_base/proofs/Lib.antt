pub mod Facts
pub mod Rows
pub mod Supplies
pub mod Tables
