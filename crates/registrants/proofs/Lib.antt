pub mod Held
pub mod Insert
pub mod Listed
pub mod Order
mod Rekeyed
