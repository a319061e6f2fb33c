pub mod Back
pub mod Handing
