pub mod Backing
pub mod Beside
pub mod BackingLaws
pub mod Lasting
pub mod Lengths
pub mod Tally
pub mod System
pub mod Told
