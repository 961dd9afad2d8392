pub mod Cells
pub mod Operands
pub mod Entries
pub mod Passed
pub mod Tables
pub mod Found
pub mod Steps
pub mod Laws
