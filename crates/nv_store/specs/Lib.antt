-- Promised: public contracts name these.
pub mod Slot
pub mod Cells
pub mod Steps
pub mod Store
pub mod Fills
pub mod Mounts
pub mod Scans
pub mod Tables
pub mod Fails
pub mod Lent
pub mod OneView
pub mod RoomView
pub mod Rooms
pub mod TableView
pub mod TableMounts
pub mod Turns
-- Laws: lemmas that impls and clauses cite. They promise nothing.
pub mod Current
pub mod Knows
pub mod TableKnows
pub mod Clear
