-- Promised: public contracts name these.
pub mod Acts
pub mod Answers
pub mod Laws
pub mod Payload
pub mod Seen
pub mod State
-- Promised: those rest on these.
pub mod Records
