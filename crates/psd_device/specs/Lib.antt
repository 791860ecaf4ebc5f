-- Promised: public contracts name these.
pub mod Shown
pub mod Boots
pub mod Sound
pub mod NodeView
pub mod DeviceView
-- Laws: lemmas that impls and clauses cite. They promise nothing.
pub mod Knows
pub mod Finds
pub mod NodeLaws
pub mod Unique
