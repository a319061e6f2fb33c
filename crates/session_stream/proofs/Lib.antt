pub mod Queues
pub mod Segments
