pub mod Access
pub mod Notice
pub mod Reading
pub mod Seen
pub mod Table
