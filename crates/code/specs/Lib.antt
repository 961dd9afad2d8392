pub mod Fields
pub mod Word
pub mod Entries
pub mod Names
