pub mod Remainders
pub mod Tests
pub mod Exact
pub mod Feeds
pub mod Figures
pub mod Readings
pub mod Back
