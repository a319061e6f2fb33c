pub mod Eight
pub mod Meaning
