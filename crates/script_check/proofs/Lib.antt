pub mod Behind
pub mod Checking
pub mod Firsts
pub mod FormEvents
pub mod InPlace
pub mod InSlots
pub mod Samples
