pub mod AllTold
pub mod Apart
pub mod AsTold
pub mod Chains
