pub mod Lanes
pub mod Logins
pub mod Server
pub mod Worker
