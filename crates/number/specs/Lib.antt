pub mod Number
pub mod Reading
pub mod Decimal
pub mod Folding
