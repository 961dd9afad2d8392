pub mod Cases
pub mod Chunks
pub mod Sorts
pub mod Slots
pub mod Round
