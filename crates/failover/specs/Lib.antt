pub mod Mover
pub mod Down
pub mod Up
