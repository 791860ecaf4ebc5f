pub mod AmongWords
