pub mod Handles
pub mod Live
pub mod Sessions
pub mod Silence
pub mod Target
pub mod Turns
