-- Promised: public contracts name these.
pub mod ActLaws
pub mod Acts
pub mod Answers
pub mod Books
pub mod Laws
pub mod Parts
pub mod Payload
pub mod PayloadLaws
pub mod Plans
pub mod Rows
pub mod Seen
pub mod Soundness
pub mod Standing
-- Promised: those rest on these.
pub mod Order
pub mod Records
