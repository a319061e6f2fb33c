pub mod Front
pub mod Inbox
pub mod Stream
pub mod Transcript
pub mod Watched
