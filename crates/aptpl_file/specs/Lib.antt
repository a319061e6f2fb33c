pub mod Formatting
pub mod Holds
pub mod Lasts
pub mod Runs
pub mod Writes
