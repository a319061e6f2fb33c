pub mod Entries
pub mod Flushes
