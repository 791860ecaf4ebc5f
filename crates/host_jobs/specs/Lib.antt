-- Promised: public contracts name these.
pub mod ActLaws
pub mod Acts
pub mod Answers
pub mod Payload
pub mod PayloadLaws
pub mod Plans
pub mod Rows
pub mod Seen
pub mod SeenLaws
pub mod Soundness
-- Promised: those rest on these.
pub mod Order
pub mod Records
pub mod Turns
