pub mod Once
pub mod OneUnit
