pub mod Kind
pub mod Nexus
pub mod Registry
