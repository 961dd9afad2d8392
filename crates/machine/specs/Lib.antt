pub mod View
pub mod Values
pub mod Acts
pub mod States
pub mod Messages
pub mod Steps
