pub mod Spells
pub mod Exact
pub mod Passing
pub mod Held
