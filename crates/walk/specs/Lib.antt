pub mod Faults
pub mod Names
pub mod Walk
pub mod Bodies
pub mod Reads
