pub mod Actions
pub mod Appended
pub mod EveryRequest
pub mod Hearing
pub mod Room
pub mod Sound
