pub mod Difference
pub mod Ends
pub mod Instances
