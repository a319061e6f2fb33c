pub mod Answered
pub mod History
pub mod Moves
pub mod Serials
pub mod Step
