pub mod Lists
pub mod Sound
pub mod Steps
pub mod Again
pub mod Placed
pub mod Told
pub mod Order
pub mod Standing
