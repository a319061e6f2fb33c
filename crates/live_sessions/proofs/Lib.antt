pub mod Attaching
pub mod Refusing
pub mod Retiring
pub mod Slots
