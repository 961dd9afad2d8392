pub mod Aims
pub mod Code
pub mod Faults
pub mod Functions
pub mod Source
pub mod Translated
pub mod Written
