pub mod Counted
pub mod FlushLaws
