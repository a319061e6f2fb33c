pub mod Agreed
mod Announced
pub mod Cuts
pub mod InRange
pub mod Numbers
pub mod Once
pub mod Sizes
pub mod Spelled
pub mod Turns
