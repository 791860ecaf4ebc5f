-- Promised: public contracts name these.
pub mod Tables
pub mod Reading
pub mod Answers
pub mod Laws
-- Promised: those rest on these.
pub mod Tariffs
pub mod Written
