pub mod Trade
pub mod Numbering
pub mod Beginnings
