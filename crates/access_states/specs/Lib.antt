pub mod AccessMap
pub mod Change
pub mod Laws
pub mod List
pub mod Report
pub mod State
