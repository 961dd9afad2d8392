pub mod Packed
pub mod Round
pub mod EntryRound
