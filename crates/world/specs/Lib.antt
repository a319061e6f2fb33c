pub mod Traffic
pub mod Events
pub mod Orders
pub mod Records
pub mod Worlds
