pub mod Outbox
pub mod Pdus
pub mod Source
