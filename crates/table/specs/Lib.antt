pub mod Flow
pub mod Fields
pub mod Faults
pub mod Kinds
pub mod Numbers
pub mod Shapes
pub mod Sorts
pub mod View
