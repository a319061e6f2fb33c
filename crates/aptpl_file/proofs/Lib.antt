pub mod Formats
pub mod LastsLaws
pub mod OneHeld
pub mod Saves
pub mod SlotHas
pub mod SlotWrites
pub mod Stops
