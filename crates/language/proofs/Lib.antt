pub mod Readings
pub mod Growth
pub mod Laws
pub mod Values
pub mod Ranges
