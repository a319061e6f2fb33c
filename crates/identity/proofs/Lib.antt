pub mod LunList
pub mod Serials
