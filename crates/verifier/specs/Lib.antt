-- Promised: public contracts name these.
pub mod ActLaws
pub mod Acts
pub mod Answers
pub mod Index
pub mod Payload
pub mod PayloadLaws
pub mod Plans
pub mod Rows
pub mod Seen
-- Promised: those rest on these.
pub mod Order
pub mod Records
