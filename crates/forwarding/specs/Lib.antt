pub mod Jobs
pub mod Names
pub mod Queue
pub mod Served
pub mod Settled
