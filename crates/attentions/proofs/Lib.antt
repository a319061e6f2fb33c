pub mod Repeats
pub mod Slots
