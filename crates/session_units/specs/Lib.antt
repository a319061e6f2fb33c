pub mod Disks
pub mod Entries
pub mod Late
pub mod Leavers
pub mod Leaving
pub mod Passes
pub mod Submitted
pub mod Units
