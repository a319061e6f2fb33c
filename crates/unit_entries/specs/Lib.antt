pub mod Histories
pub mod NoEntry
pub mod RowOf
pub mod Devices
