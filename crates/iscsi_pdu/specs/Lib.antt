pub mod Fault
pub mod Fields
pub mod Headers
pub mod Number
pub mod Pdu
pub mod Range
pub mod Spelling
