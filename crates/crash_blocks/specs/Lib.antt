pub mod Events
pub mod Moments
pub mod Values
