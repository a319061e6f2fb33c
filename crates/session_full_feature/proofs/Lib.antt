pub mod Receiving
pub mod Turns
pub mod Unserved
