pub mod Fresh
pub mod Nodes
pub mod SoundRecords
pub mod Sources
pub mod Tables
pub mod Walks
