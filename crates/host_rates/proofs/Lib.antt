pub mod Sound
pub mod Tariffs
pub mod Texts
pub mod Views
pub mod Written
