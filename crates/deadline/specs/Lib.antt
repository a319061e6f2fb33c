pub mod Answers
pub mod Counted
