pub mod Calls
pub mod Naming
